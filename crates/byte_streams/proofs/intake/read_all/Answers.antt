-- The bytes of one read stand after those that were read before it.
use Rattle.std.proofs.Common.{◌≡◌, ◌+◌, ◌++◌, ℕ, List, length, take, drop, refl, append_assoc, arith}
use Rattle.std.proofs.Math.Seq.{take-add}
use Rattle.std.proofs.lemmas.Grind.{common_steps}
use Rattle.byte_streams.proofs.intake.read_all.Goals as goal

-- the front of a list whose first `filled` items are those of another, once `count` more are counted to it
front_grown : (filled count room : ℕ) (new rest before : List ℕ) → length new ≡ room
    → take filled new ≡ take filled before
    → take (filled + count) (take room (new ++ rest)) ≡ take filled before ++ take count (drop filled new)
front_grown filled count room new rest before is_room same =
    let whole : take room (new ++ rest) ≡ new = grind (arith, common_steps) in
    rw (whole, take-add, same) refl

pub pieces-preserved : goal.pieces-preserved
pieces-preserved g c = record {
  within = grind (arith, common_steps, c.in-Ok.ensures.bound);
  most = grind (arith, common_steps);
  given = λ others fails after.
      let same : take c.pieces.filled c.read_after.new.bytes ≡ take c.pieces.filled c.pieces.bytes.items =
      grind (arith, common_steps, c.in-Ok.ensures.front) in
      let is_room : length c.read_after.new.bytes ≡ c.make_room.new.bytes.len = grind (arith, common_steps) in
      rw (
        front_grown c.pieces.filled c.in-Ok.count c.make_room.new.bytes.len c.read_after.new.bytes
            (drop (length c.read_after.new.bytes) c.make_room.new.bytes.items) c.pieces.bytes.items is_room same,
        append_assoc,
      ) (c.pieces.invariant.given _ fails (c.in-Ok.ensures.given others fails after));
  none_failed = grind (arith, common_steps, c.in-Ok.ensures.failures);
}

use Rattle.std.proofs.Common.{◌≡◌, ◌≤◌, ◌-◌, ◌+◌, length, take, drop, slice_range, sym, subst, arith}
use Rattle.std.proofs.lemmas.Grind.{common_steps}
use Rattle.std.proofs.lemmas.List.{length-take-le, length-drop}
use Rattle.tile_stream.specs.Stretches.{HasNoNewline}
use Rattle.tile_stream.specs.Whole.{EndsTexts}
use Rattle.tile_stream.proofs.Reading.{all_left, kept_first, read_after}
use Rattle.tile_stream.proofs.StandingLines.{none_ends}
use Rattle.tile_stream.proofs.lines.read_ahead.ReadAhead.fill.Goals as goal

pub invariant_of-self-in_err-count : goal.invariant_of-self-in_err-count
invariant_of-self-in_err-count g c =
    let held = c.self.inside.filled - c.self.inside.at in
    let new = c.read_after.new.piece in
    let kept = slice_range c.self.inside.piece.items c.self.inside.at c.self.inside.filled in
    let same : take held new ≡ kept = grind (arith, common_steps) in
    let none : HasNoNewline kept = rw (← c.self.view_is) at c.requires in
    let whole : length new ≡ c.make_room.new.piece.len = grind (arith, common_steps) in
    let within : held ≤ c.make_room.new.piece.len = grind (arith, common_steps) in
    (omega arith, within, rw (kept_first new _ _ whole kept held same within) (none_ends kept none))

pub texts_end-self-inside-requires-clause-seen : goal.texts_end-self-inside-requires-clause-seen
texts_end-self-inside-requires-clause-seen g c =
    let held = c.self.inside.filled - c.self.inside.at in
    let kept = slice_range c.self.inside.piece.items c.self.inside.at c.self.inside.filled in
    let none : HasNoNewline kept = rw (← c.self.view_is) at c.requires in
    let same : take held (take (held + c.in_ok-count.count) c.deref.result.now) ≡ kept = grind (arith, common_steps) in
    rw same none

pub invariant_of-self-2 : goal.invariant_of-self-2
invariant_of-self-2 g c =
    let held = c.self.inside.filled - c.self.inside.at in
    let new = c.read_after.new.piece in
    let count = c.in_ok-count.count in
    let whole : length new ≡ c.make_room.new.piece.len = grind (arith, common_steps) in
    let within : held + count ≤ c.make_room.new.piece.len = grind (arith, common_steps, c.in_ok-count.ensures.bound) in
    let is : take (held + count) c.deref.result.now ≡ take (held + count) new = grind (arith, common_steps) in
    let ends = rw is at c.texts_end-self-inside.ensures in
    (omega arith, within, rw (all_left new _ _ whole (held + count) within) (subst (λ n. EndsTexts (take (held + count) new) n) (omega arith) ends))

pub returns-clause-more : goal.returns-clause-more
returns-clause-more g c =
    let held = c.self.inside.filled - c.self.inside.at in
    let new = c.read_after.new.piece in
    let count = c.in_ok-count.count in
    let kept = slice_range c.self.inside.piece.items c.self.inside.at c.self.inside.filled in
    let same : take held new ≡ kept = grind (arith, common_steps) in
    let whole : length new ≡ c.make_room.new.piece.len = grind (arith, common_steps) in
    let within : held + count ≤ c.make_room.new.piece.len = grind (arith, common_steps, c.in_ok-count.ensures.bound) in
    rw (← c.self.view_is) (record {
      more = take count (drop held new);
      counted = sym (length-take-le count (drop held new) (omega (arith, whole, within, length-drop held new)));
      held = read_after new _ _ whole kept held same count within;
      given = c.in_ok-count.ensures.given;
    })

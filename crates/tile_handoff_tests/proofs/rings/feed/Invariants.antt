use Rattle.std.proofs.Common.{◌≡◌, ◌++◌, map}
use Rattle.tile_handoff.specs.Ends.{notes_put, IsSameSender}
use Rattle.tile_handoff.specs.declared.note.Note.TheVariants.{Line}
use Rattle.tile_handoff_tests.proofs.rings.feed.Given as goal

-- the lines so far were put
abbrev pub invariant-feeding : goal.invariant-feeding
invariant-feeding g l =
    (goal.iterator-feeding g).can_next l.line-iterator × (goal.iterator-feeding g).is_finite l.line-iterator
    × IsSameSender l.initial.sender l.sender
    × (notes_put l.sender ≡ notes_put l.initial.sender ++ map (λ line. Line line) l.yielded)

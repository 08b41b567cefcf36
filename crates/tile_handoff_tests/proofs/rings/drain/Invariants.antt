use Rattle.std.proofs.Common.{◌≡◌, ◌++◌, map}
use Rattle.tile_handoff.specs.Ends.{notes_taken, IsSameReceiver}
use Rattle.tile_handoff.specs.declared.note.Note.TheVariants.{Line}
use Rattle.tile_handoff_tests.proofs.rings.drain.Given as goal

-- what was taken so far are the lines
abbrev pub invariant-draining : goal.invariant-draining
invariant-draining g l =
    IsSameReceiver l.initial.receiver l.receiver
    × (notes_taken l.receiver ≡ notes_taken l.initial.receiver ++ map (λ line. Line line) l.lines.items)

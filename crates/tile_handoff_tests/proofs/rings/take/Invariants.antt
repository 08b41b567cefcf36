use Rattle.std.proofs.Common.{◌≡◌}
use Rattle.tile_handoff.specs.Ends.{notes_taken, IsSameReceiver}
use Rattle.tile_handoff_tests.proofs.rings.take.Given as goal

-- nothing was taken yet
abbrev pub invariant-empty : goal.invariant-empty
invariant-empty g l =
    IsSameReceiver l.initial.receiver l.receiver × (notes_taken l.receiver ≡ notes_taken l.initial.receiver)

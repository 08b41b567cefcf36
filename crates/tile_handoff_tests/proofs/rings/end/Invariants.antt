use Rattle.std.proofs.Common.{◌≡◌}
use Rattle.tile_handoff.specs.Ends.{notes_put, IsSameSender}
use Rattle.tile_handoff_tests.proofs.rings.end.Given as goal

-- nothing was put yet
abbrev pub invariant-full : goal.invariant-full
invariant-full g l = IsSameSender l.initial.sender l.sender × (notes_put l.sender ≡ notes_put l.initial.sender)

use Rattle.tile_merge.specs.Threads.{GoesOnCancelling}
use Rattle.tile_merge.proofs.merging.threaded.writing.cancel_if_failed.Given as goal

abbrev pub invariant-tiles : goal.invariant-tiles
invariant-tiles g l = GoesOnCancelling l.fn.tiles l.tiles l.fn.wrote

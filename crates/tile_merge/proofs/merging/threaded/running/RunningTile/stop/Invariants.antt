use Rattle.tile_merge.proofs.merging.threaded.running.RunningTile.stop.Given as goal

abbrev pub invariant-notes : goal.invariant-notes
invariant-notes g l = Unit {0}

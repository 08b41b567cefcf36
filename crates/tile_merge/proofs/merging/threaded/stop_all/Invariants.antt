use Rattle.tile_merge.proofs.merging.threaded.stop_all.Given as goal

abbrev pub invariant-loop-tile : goal.invariant-loop-tile
invariant-loop-tile g l = record {
  can_next : (goal.iterator-loop-tile g).can_next l.tile-iterator;
  is_finite : (goal.iterator-loop-tile g).is_finite l.tile-iterator;
}

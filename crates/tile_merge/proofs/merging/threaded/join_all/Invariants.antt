use Rattle.std.proofs.Common.{◌≡◌, ◌++◌, List}
use Rattle.tile_merge.specs.Feeds.{Course}
use Rattle.tile_merge.specs.Threads.{HaveGiven}
use Rattle.tile_merge.proofs.merging.threaded.join_all.Given as goal

-- the tiles so far have given their courses, and the others are left
abbrev pub invariant-loop-tile : goal.invariant-loop-tile
invariant-loop-tile g l = record {
  can_next : (goal.iterator-loop-tile g).can_next l.tile-iterator;
  is_finite : (goal.iterator-loop-tile g).is_finite l.tile-iterator;
  given : (courses : List Course) × HaveGiven g.R.Source.gives l.yielded courses;
  left : l.fn.tiles.items ≡ l.yielded ++ l.tile-iterator.rest.items;
}

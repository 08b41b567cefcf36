use Rattle.std.proofs.Common.{◌≡◌, ◌++◌, length, take, vec_capacity}
use Rattle.tile_merge.specs.Opened.{AllThree}
use Rattle.tile_merge.specs.Threads.{IsRunOf}
use Rattle.tile_merge.proofs.merging.threaded.start_all.Given as goal

-- the threads of the tiles so far run, and the others are left
abbrev pub invariant-loop-tile : goal.invariant-loop-tile
invariant-loop-tile g l =
    record {
      can_next : (goal.iterator-loop-tile g).can_next l.tile-iterator;
      is_finite : (goal.iterator-loop-tile g).is_finite l.tile-iterator;
      runs : AllThree (IsRunOf g.R.Source.gives l.fn.choice) l.yielded (take (length l.yielded) l.fn.shifts) l.running.items;
      room : vec_capacity l.running ≡ length l.fn.tiles.items;
      left : l.fn.tiles.items ≡ l.yielded ++ l.tile-iterator.rest.items;
    }

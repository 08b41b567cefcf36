use Rattle.std.proofs.Common.{◌≡◌, ◌++◌, length, take}
use Rattle.city_feature.specs.Choice.{IsChosen}
use Rattle.tile_merge.specs.Opened.{AllThree}
use Rattle.tile_merge.specs.Rounds.{IsFeedOf}
use Rattle.tile_merge.proofs.merging.in_turn.feeds_of.Given as goal

-- the tiles so far have their feeds, and the others are left
abbrev pub invariant-loop-tile : goal.invariant-loop-tile
invariant-loop-tile g l =
    record {
      can_next : (goal.iterator-loop-tile g).can_next l.tile-iterator;
      is_finite : (goal.iterator-loop-tile g).is_finite l.tile-iterator;
      fed : AllThree (IsFeedOf g.R.Source.gives (IsChosen l.fn.choice)) l.yielded (take (length l.yielded) l.fn.shifts) l.feeds.items;
      left : l.fn.tiles.items ≡ l.yielded ++ l.tile-iterator.rest.items;
    }

use Rattle.std.proofs.Common.{◌≡◌, ◌++◌, map}
use Rattle.city_feature.specs.Values.{header_value}
use Rattle.tile_merge.specs.Opened.{AllThree, IsOpened}
use Rattle.tile_merge.proofs.merging.tiles.take_heads.Given as goal

-- the tiles so far were opened, and the other readers are left
abbrev pub invariant-loop-reader : goal.invariant-loop-reader
invariant-loop-reader g l =
    record {
      can_next : (goal.iterator-loop-reader g).can_next l.reader-iterator;
      is_finite : (goal.iterator-loop-reader g).is_finite l.reader-iterator;
      opened : AllThree (IsOpened g.R.Source.gives) l.yielded l.tiles.items (map header_value l.headers.items);
      left : l.fn.readers.items ≡ l.yielded ++ l.reader-iterator.rest.items;
    }

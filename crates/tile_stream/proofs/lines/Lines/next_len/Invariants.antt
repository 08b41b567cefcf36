use Rattle.std.proofs.Common.{◌≡◌, ◌≤◌}
use Rattle.tile_stream.specs.Tile.{TileLines}
use Rattle.tile_stream.specs.Unread.{Leaves, most_left, has_failed, is_refused, IsSameOrOpen}
use Rattle.tile_stream.specs.Whole.{HoldsLine}
use Rattle.tile_stream.proofs.lines.Lines.next_len.Given as goal

-- what may be left now may have been left at the start: only blank stretches were skipped
abbrev pub invariant-stretches : goal.invariant-stretches
invariant-stretches g l = record {
  back : (left : TileLines) → Leaves g.R.Source.gives l.self left → Leaves g.R.Source.gives l.initial.self left;
  kept : IsSameOrOpen l.initial.self.ended l.self.ended;
  later : l.initial.self.number ≤ l.self.number;
  fewer : most_left l.self ≤ most_left l.initial.self;
  refused : is_refused l.self ≡ is_refused l.initial.self;
  held : HoldsLine l.initial.self.ahead.held
      → HoldsLine l.self.ahead.held × (l.self.ahead.reader ≡ l.initial.self.ahead.reader);
  failed : has_failed l.self ≡ has_failed l.initial.self;
  failures : g.R.Source.failures l.self.ahead.reader ≡ g.R.Source.failures l.initial.self.ahead.reader;
}

abbrev pub decreases-stretches : goal.decreases-stretches
decreases-stretches g l = most_left l.self

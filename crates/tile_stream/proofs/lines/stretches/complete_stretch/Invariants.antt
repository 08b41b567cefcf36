use Rattle.std.proofs.Common.{◌≡◌, ◌≤◌, ◌-◌, ◌+◌, length, take}
use Rattle.tile_stream.specs.Ahead.{MayCome}
use Rattle.tile_stream.specs.Stretches.{BytesComeBack, HasNoNewline, HoldsNewline}
use Rattle.tile_stream.proofs.lines.stretches.complete_stretch.Given as goal

-- the bytes that were seen hold no newline, and what is to come may have been to come at first
abbrev pub invariant-pieces : goal.invariant-pieces
invariant-pieces g l = record {
  within : l.seen ≤ length l.ahead.held;
  none : HasNoNewline (take l.seen l.ahead.held);
  back : BytesComeBack (MayCome g.R.Source.gives l.initial.ahead) (MayCome g.R.Source.gives l.ahead);
  held : HoldsNewline l.initial.ahead.held → l.ahead ≡ l.initial.ahead;
  none_failed : g.R.Source.failures l.ahead.reader ≡ g.R.Source.failures l.initial.ahead.reader;
}

abbrev pub decreases-pieces : goal.decreases-pieces
decreases-pieces g l = l.limits.tile + 1 - (l.start + length l.ahead.held)

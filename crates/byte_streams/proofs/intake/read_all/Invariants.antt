use Rattle.std.proofs.Common.{◌≡◌, ◌≤◌, ◌-◌, ◌+◌, take, vec_len}
use Rattle.byte_streams.specs.Source.{GivesFirst}
use Rattle.byte_streams.proofs.intake.read_all.Given as goal

-- the bytes that are filled were given, and no read failed
abbrev pub invariant-pieces : goal.invariant-pieces
invariant-pieces g l = record {
  within : l.filled ≤ vec_len l.bytes;
  most : vec_len l.bytes ≤ l.limit + 1;
  given : GivesFirst (g.S.Source.gives l.initial.source) (g.S.Source.gives l.source) (take l.filled l.bytes.items);
  none_failed : g.S.Source.failures l.source ≡ g.S.Source.failures l.initial.source;
}

abbrev pub decreases-pieces : goal.decreases-pieces
decreases-pieces g l = l.limit + 1 - l.filled

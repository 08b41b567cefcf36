use Rattle.std.proofs.Common.{◌<◌, ◌-◌}
use Rattle.city_json.proofs.ParityLemmas.{Reaches}
use Rattle.city_json.proofs.reading.depth.parities.Given as goal

abbrev pub invariant-loop-reach : goal.invariant-loop-reach
invariant-loop-reach l = record {
  some : 0 < l.reach;
  low : l.reach < 128;
  reaches : Reaches l.bits l.sums l.reach;
}

abbrev pub decreases-loop-reach : goal.decreases-loop-reach
decreases-loop-reach l = 128 - l.reach

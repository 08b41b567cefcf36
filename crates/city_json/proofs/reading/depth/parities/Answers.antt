use Rattle.std.proofs.Common.{arith}
use Rattle.city_json.proofs.ParityLemmas.{Reaches-one, Reaches-twice, Reaches-all}
use Rattle.city_json.proofs.reading.depth.parities.Goals as goal

pub loop-reach-init : goal.loop-reach-init
loop-reach-init c = record { some = omega arith; low = omega arith; reaches = Reaches-one c.args.bits }

pub loop-reach-preserved : goal.loop-reach-preserved
loop-reach-preserved c = record {
  some = omega arith;
  low = omega arith;
  reaches = Reaches-twice c.args.bits c.loop-reach.sums c.loop-reach.reach c.loop-reach.invariant.reaches;
}

pub returns : goal.returns
returns c = Reaches-all c.args.bits c.loop-reach.sums c.loop-reach.reach (omega arith) c.loop-reach.invariant.reaches

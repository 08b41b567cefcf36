use Rattle.std.proofs.Common.{◌+◌, arith}
use Rattle.city_json.proofs.Triples.{fronts_close, fronts_more, no_front}
use Rattle.city_json.proofs.compacting.triples.look_at_triples.Goals as goal

pub fronts-init : goal.fronts-init
fronts-init c = record {
  onward = omega arith;
  within = omega (arith, c.requires.within);
  passed = no_front c.args.text.now (c.args.at + 1);
}

pub fronts-preserved : goal.fronts-preserved
fronts-preserved c = record {
  onward = omega (arith, c.fronts.invariant.onward);
  within = c.front_at-front.ensures.within;
  passed = fronts_more c.args.text.now c.args.at c.fronts.i (c.fronts.i + c.front_at-front.result.len)
      c.fronts.invariant.onward (omega arith) c.fronts.invariant.passed
      (c.front_at-front.ensures.goes_on c.if-front.false);
}

pub returns-then-front-clause-is : goal.returns-then-front-clause-is
returns-then-front-clause-is c = λ _.
    fronts_close c.args.text.now c.args.at c.fronts.i (c.fronts.i + c.front_at-front.result.len)
    c.fronts.invariant.onward (omega arith) c.requires.within c.requires.opened c.fronts.invariant.passed
    (c.front_at-front.ensures.closed c.if-front.true)

pub returns-then-front-2-clause-passed : goal.returns-then-front-2-clause-passed
returns-then-front-2-clause-passed c = λ _.
    fronts_more c.args.text.now c.args.at c.fronts.i (c.fronts.i + c.front_at-front.result.len)
    c.fronts.invariant.onward (omega arith) c.fronts.invariant.passed
    (c.front_at-front.ensures.goes_on c.if-front.false)

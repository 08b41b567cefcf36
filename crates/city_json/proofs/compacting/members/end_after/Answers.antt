use Rattle.std.proofs.Common.{arith}
use Rattle.city_json.proofs.FrontMembers.{ends_from, goes_nowhere, goes_on_from}
use Rattle.city_json.proofs.compacting.members.end_after.Goals as goal

pub members-init : goal.members-init
members-init c = record {
  onward = omega arith;
  within = c.requires;
  goes = goes_nowhere c.args.text.now c.args.end;
}

pub returns-then-text-last-eq125-clause-is : goal.returns-then-text-last-eq125-clause-is
returns-then-text-last-eq125-clause-is c = ends_from c.args.text.now c.args.end c.members.last
    c.members.invariant.goes c.members.invariant.within c.if-text-last-eq125.true

pub members-preserved : goal.members-preserved
members-preserved c = record {
  onward = omega (arith, c.members.invariant.onward, c.in_ok-part.ensures.onward);
  within = c.in_ok-part.ensures.within;
  goes = goes_on_from c.args.text.now c.args.end c.members.last c.in_ok-part.part c.members.invariant.goes
      c.members.invariant.within c.if-text-last-eq125.false c.in_ok-part.ensures.is;
}

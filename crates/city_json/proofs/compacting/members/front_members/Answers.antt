use Rattle.std.proofs.Common.{arith}
use Rattle.city_json.proofs.FrontMembers.{has_front_parts, members_begin, members_go_on, members_none, members_stop, no_next_member, other_front, too_short}
use Rattle.city_json.proofs.compacting.members.front_members.Goals as goal

pub returns-then-text-lt2-clause-none : goal.returns-then-text-lt2-clause-none
returns-then-text-lt2-clause-none c = too_short c.args.text.now c.if-text-lt2.true

pub returns-then-text-ne123-clause-none : goal.returns-then-text-ne123-clause-none
returns-then-text-ne123-clause-none c = other_front c.args.text.now (omega (arith, c.if-text-lt2.false)) c.if-text-ne123.true

pub returns-then-text-eq125-clause-is : goal.returns-then-text-eq125-clause-is
returns-then-text-eq125-clause-is c =
    let text = c.args.text.now in
    has_front_parts text _ 2 (omega (arith, c.if-text-lt2.false)) (omega (arith, c.if-text-ne123.false))
    (members_none text _ c.in_ok-parts.ensures.items (omega (arith, c.if-text-lt2.false)) c.if-text-eq125.true)

pub members-init : goal.members-init
members-init c = record {
  within = omega (arith, c.if-text-lt2.false);
  goes_on = members_begin c.args.text.now _ c.in_ok-parts.ensures.items (omega (arith, c.if-text-lt2.false))
      c.if-text-eq125.false;
}

pub returns-in_default-clause-none : goal.returns-in_default-clause-none
returns-in_default-clause-none c =
    no_next_member c.args.text.now c.members.at c.members.parts.items c.members.invariant.goes_on c.in_default.ensures.none

pub returns-then-text-part-eq125-clause-is : goal.returns-then-text-part-eq125-clause-is
returns-then-text-part-eq125-clause-is c =
    let text = c.args.text.now in
    has_front_parts text _ _ (omega (arith, c.if-text-lt2.false)) (omega (arith, c.if-text-ne123.false))
    (members_stop text c.members.at c.in-Some.part c.members.parts.items _ c.members.invariant.goes_on
    c.in-Some.ensures.is c.in-Some.ensures.within c.if-text-part-eq125.true c.in_ok-push.ensures.items)

pub members-preserved : goal.members-preserved
members-preserved c = record {
  within = omega (arith, c.in-Some.ensures.within);
  goes_on = members_go_on c.args.text.now c.members.at c.in-Some.part c.members.parts.items _
      c.members.invariant.goes_on c.in-Some.ensures.is c.in-Some.ensures.within c.if-text-part-eq125.false
      c.in_ok-push.ensures.items;
}

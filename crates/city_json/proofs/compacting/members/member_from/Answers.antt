use Rattle.std.proofs.Common.{arith}
use Rattle.city_json.proofs.CompactMembers.{member_leaves, no_value}
use Rattle.city_json.proofs.compacting.members.member_from.Goals as goal

pub returns-clause-is : goal.returns-clause-is
returns-clause-is c =
    let text = c.args.text.now in
    member_leaves text c.args.at c.args.colon c.value_end-end.result (omega (arith, c.requires.order, c.requires.within))
    c.requires.within c.value_end-end.ensures.within c.requires.is c.value_end-end.ensures.is

pub returns-then-end-text-clause-none : goal.returns-then-end-text-clause-none
returns-then-end-text-clause-none c =
    no_value c.args.text.now _ c.value_end-end.result (omega (arith, c.if-end-text.true)) c.value_end-end.ensures.is

use Rattle.std.proofs.Common.{arith, [], ◌∷◌, ◌++◌, refl}
use Rattle.city_json.proofs.CompactMembers.{member_leaves}
use Rattle.city_json.proofs.FrontMembers.{members_begin, members_go_on}
use Rattle.city_json.proofs.compacting.members.value_place.Goals as goal

pub members-init : goal.members-init
members-init c = record {
  within = omega (arith, c.if-text-lt2.false);
  goes_on = ([], members_begin c.args.text.now [] refl (omega (arith, c.if-text-lt2.false)) c.if-text-eq125.false);
}

pub members-preserved : goal.members-preserved
members-preserved c = record {
  within = omega (arith, c.in_ok-part.ensures.within);
  goes_on = (
    c.members.invariant.goes_on.0 ++ c.in_ok-part.part ∷ [],
    members_go_on c.args.text.now c.members.at c.in_ok-part.part c.members.invariant.goes_on.0 _
        c.members.invariant.goes_on.1 c.in_ok-part.ensures.is c.in_ok-part.ensures.within c.if-text-part-eq125.false refl,
  );
}

pub returns-then-is_between-clause-is : goal.returns-then-is_between-clause-is
returns-then-is_between-clause-is c =
    let text = c.args.text.now in
    let (parts, on) = c.members.invariant.goes_on in
    record {
      at = c.members.at;
      parts = parts;
      some = omega (arith, c.if-text-lt2.false);
      opens = omega (arith, c.if-text-ne123.false);
      order = omega (arith, c.in_ok-colon.ensures.onward);
      within = omega (arith, c.in_ok-colon.ensures.within);
      named = c.is_between.ensures.yes c.if-is_between.true;
      goes_on = on;
      leaves = λ end within leaves. member_leaves text c.members.at c.in_ok-colon.colon end
          (omega (arith, c.in_ok-colon.ensures.onward, c.in_ok-colon.ensures.within)) c.in_ok-colon.ensures.within within
          c.in_ok-colon.ensures.is leaves;
    }

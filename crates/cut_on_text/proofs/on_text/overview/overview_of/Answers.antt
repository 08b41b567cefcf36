use Rattle.std.proofs.Common.{arith}
use Rattle.city_json.proofs.FrontMembers.{has_front_parts, members_begin, members_go_on, members_none, members_stop, whole_parts}
use Rattle.cut_on_text.proofs.TextOverviews.{none_yet}
use Rattle.cut_on_text.proofs.on_text.overview.overview_of.Goals as goal

pub returns-then-text-eq125-clause-places : goal.returns-then-text-eq125-clause-places
returns-then-text-eq125-clause-places c =
    let text = c.args.text.now in
    whole_parts text _ 2 (has_front_parts text _ 2 (omega (arith, c.if-text-lt2.false))
    (omega (arith, c.if-text-ne123.false)) (members_none text _ c.in_ok-found.ensures.places
    (omega (arith, c.if-text-lt2.false)) c.if-text-eq125.true))

pub objects-init : goal.objects-init
objects-init c = record {
  within = omega (arith, c.if-text-lt2.false);
  goes_on = members_begin c.args.text.now _ c.in_ok-found.ensures.places (omega (arith, c.if-text-lt2.false))
      c.if-text-eq125.false;
  parents = none_yet _ _ _ c.in_ok-found.ensures.places c.in_ok-found.ensures.parents;
  children = none_yet _ _ _ c.in_ok-found.ensures.places c.in_ok-found.ensures.children;
  held = none_yet _ _ _ c.in_ok-found.ensures.places c.in_ok-found.ensures.held;
}

pub returns-then-text-part-eq125-clause-places : goal.returns-then-text-part-eq125-clause-places
returns-then-text-part-eq125-clause-places c =
    let text = c.args.text.now in
    whole_parts text _ _ (has_front_parts text _ _ (omega (arith, c.if-text-lt2.false))
    (omega (arith, c.if-text-ne123.false)) (members_stop text c.objects.at c.in_ok-part.part
    c.objects.found.places.items _ c.objects.invariant.goes_on c.in_ok-part.ensures.is c.in_ok-part.ensures.within
    c.if-text-part-eq125.true c.in_ok-part.ensures.places))

pub objects-preserved : goal.objects-preserved
objects-preserved c = record {
  within = omega (arith, c.in_ok-part.ensures.within);
  goes_on = members_go_on c.args.text.now c.objects.at c.in_ok-part.part c.objects.found.places.items _
      c.objects.invariant.goes_on c.in_ok-part.ensures.is c.in_ok-part.ensures.within c.if-text-part-eq125.false
      c.in_ok-part.ensures.places;
  parents = c.in_ok-part.ensures.parents c.objects.invariant.parents;
  children = c.in_ok-part.ensures.children c.objects.invariant.children;
  held = c.in_ok-part.ensures.held c.objects.invariant.held;
}

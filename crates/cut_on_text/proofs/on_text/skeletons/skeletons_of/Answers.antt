use Rattle.std.proofs.Common.{◌≡◌, ◌∙◌, ◌++◌, ◌<◌, [], ◌∷◌, All, ap, arith, length, refl, rules, subst, length-append}
use Rattle.city_families.specs.Chosen.{named_at}
use Rattle.cut_on_text.specs.Skeletons.{LeafPlace}
use Rattle.cut_on_text.specs.Sketches.{IsSketch}
use Rattle.cut_on_text.proofs.Sketched.{laid_all, laid_more, laid_none, place_is}
use Rattle.cut_on_text.proofs.on_text.skeletons.skeletons_of.Goals as goal

pub loop-at-init : goal.loop-at-init
loop-at-init c = let none : c.in_ok-places.places.items ≡ [] = search rules in record {
  count = c.new.ensures.count;
  many = ap length none;
  laid = λ pairs are. laid_none _ _ _ _ pairs none;
}

pub loop-at-preserved : goal.loop-at-preserved
loop-at-preserved c = record {
  count = c.in_ok-start.ensures.count ∙ c.loop-at.invariant.count;
  many = omega (
    arith,
    ap length c.in_ok-push.ensures,
    length-append c.loop-at.places.items (c.in_ok-start.start ∷ []),
    c.loop-at.invariant.many,
  );
  laid = λ pairs are.
      laid_more c.args.count c.loop-at.at c.loop-at.copier.labels.leaves.items c.loop-at.copier.draft.line c.in_ok-start.start
      c.note_named.new.copier.labels.leaves.items c.note_named.new.copier.draft.line c.loop-at.places.items
      c.push.new.to.items pairs c.loop-at.invariant.many c.in_ok-push.ensures
      (c.loop-at.invariant.laid pairs are)
      (subst (λ n. IsSketch n c.loop-at.copier.labels.leaves.items c.loop-at.copier.draft.line c.in_ok-start.start
      c.note_named.new.copier.labels.leaves.items c.note_named.new.copier.draft.line (named_at pairs c.loop-at.at))
      c.loop-at.invariant.count (c.in_ok-start.ensures.made pairs are));
}

pub returns-clause-made : goal.returns-clause-made
returns-clause-made c = λ pairs are.
    let line = c.loop-at.copier.draft.line in
    let noted = c.loop-at.copier.labels.leaves.items in
    let end = place_is c.in_ok-new.field-0 (length c.items-end.result.now) c.len-last.result line noted
    c.in_ok-new.ensures (ap length c.items-end.ensures)
    (omega (arith, c.len-last.ensures, c.loop-at.copier.labels.leaves.ok)) in
    laid_all c.args.count line noted c.loop-at.places.items _ c.args.objects.now.places pairs are.1
    (omega (arith, c.loop-at.invariant.many, c.loop-at-test.false, c.loop-at.auto.at-end)) refl refl
    (c.in_ok-push-2.ensures ∙ ap (λ p. c.loop-at.places.items ++ p ∷ []) end)
    (subst (λ n. All (λ (leaf : LeafPlace). leaf.vertex < n) noted) c.loop-at.invariant.count c.loop-at.copier.labels.within)
    (c.loop-at.invariant.laid pairs are)

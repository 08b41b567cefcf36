use Rattle.std.proofs.Common.{◌∙◌, map, subst, take, take_all, length, get_or}
use Rattle.city_families.specs.Boundaries.{IsBounded}
use Rattle.city_families.specs.Chosen.{named_at}
use Rattle.cut_on_text.proofs.TextFeatures.{OthersMade, others_more, places_more}
use Rattle.cut_on_text.proofs.on_text.features.append_others.Goals as goal

pub loop-at-preserved : goal.loop-at-preserved
loop-at-preserved c = record {
  long = c.in_ok-append_named.ensures.long ∙ c.loop-at.invariant.long;
  made = λ pairs are.
      let at = get_or c.args.places.now c.loop-at.at-index 0 in
      let (inside, bounded, one) = c.in_ok-append_named.ensures.made pairs are in
      subst (OthersMade (length c.args.copier.now.labels.table.items) c.args.copier.now.labels.table.items
      c.args.copier.now.labels.order.items c.args.copier.now.draft.line c.append_named.new.copier.labels.table.items
      c.append_named.new.copier.labels.order.items c.append_named.new.copier.draft.line)
      (places_more pairs c.args.places.now c.loop-at.at-index c.loop-at-test.true)
      (others_more _ _ _ _ _ _ _ _ _ _ _ (map (named_at pairs) (take c.loop-at.at-index c.args.places.now))
      (named_at pairs at) (c.loop-at.invariant.made pairs are) c.in_ok-append_text.ensures
      (subst (λ n. IsBounded n (named_at pairs at).1) c.loop-at.invariant.long bounded) one);
}

pub returns-clause-made : goal.returns-clause-made
returns-clause-made c = λ pairs are.
    subst (λ l. OthersMade (length c.args.copier.now.labels.table.items) c.args.copier.now.labels.table.items
    c.args.copier.now.labels.order.items c.args.copier.now.draft.line c.loop-at.copier.labels.table.items
    c.loop-at.copier.labels.order.items c.loop-at.copier.draft.line (map (named_at pairs) l))
    (take_all c.loop-at.at-index c.args.places.now c.loop-at-test.false) (c.loop-at.invariant.made pairs are)

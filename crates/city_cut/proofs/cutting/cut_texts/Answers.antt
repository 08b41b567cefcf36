use Rattle.std.proofs.Common.{◌∙◌, ap}
use Rattle.city_families.specs.HeldTexts.{HeldTexts, pieces, texts_in, with_end}
use Rattle.city_cut.proofs.cutting.cut_texts.Goals as goal

pub returns-clause-ok : goal.returns-clause-ok
returns-clause-ok c =
    let (features, cut, ends, kept) = c.in_ok-header.ensures.ok in
    let there = c.in_ok-header.field-0 in (
      features,
      cut,
      ap texts_in c.held-texts.ensures
          ∙ (ap (λ last. with_end last (pieces there.own 0 there.ends.items)) c.in_ok-brace.ensures ∙ kept),
    )

pub returns-clause-ends : goal.returns-clause-ends
returns-clause-ends c = ap (λ (held : HeldTexts). held.common) c.held-texts.ensures ∙ c.in_ok-brace.ensures

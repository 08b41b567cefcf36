use Rattle.std.proofs.Common.{◌∙◌, sym}
use Rattle.std.proofs.lemmas.Slice.Eq.{bytes_eq-Decides}
use Rattle.city_feature.proofs.features.LineFaults.{is_type_here}
use Rattle.city_feature.proofs.features.shape.is_feature_type.Goals as goal

pub returns : goal.returns
returns c = λ value of.
    let text = c.args.text.now in
    let wanted = c.as_slice.result.now in
    let same = is_type_here text value of in
    let equal = bytes_eq-Decides text wanted in (
      λ yes. same.0 (equal.0 (sym c.eq.ensures ∙ yes) ∙ c.as_slice.ensures),
      λ is. c.eq.ensures ∙ equal.1 (same.1 is ∙ sym c.as_slice.ensures),
    )

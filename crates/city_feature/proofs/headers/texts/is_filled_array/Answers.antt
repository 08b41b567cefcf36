use Rattle.std.proofs.Common.{◌∙◌, sym}
use Rattle.std.proofs.lemmas.Slice.Eq.{bytes_eq-Decides}
use Rattle.city_feature.proofs.features.LineVertices.{not_both}
use Rattle.city_feature.proofs.headers.HeldCity.{filled_array, other_array, told_apart}
use Rattle.city_feature.proofs.headers.texts.is_filled_array.Goals as goal

pub returns-then-is_array : goal.returns-then-is_array
returns-then-is_array c = λ value of.
    let text = c.args.text.now in
    let test = told_apart _ c.ne.result _ (bytes_eq-Decides text c.as_slice.result.now) c.ne.ensures in (
      λ yes. filled_array text value of (λ same. test.0 yes (same ∙ sym c.as_slice.ensures))
          ((c.is_array.ensures value of).0 c.if-is_array.true),
      λ is. test.1 (λ same. (other_array text value of is).1 (same ∙ c.as_slice.ensures)),
    )

pub returns-else-is_array : goal.returns-else-is_array
returns-else-is_array c = λ value of.
    let never = not_both c.is_array.result c.if-is_array.false in (
      λ yes. absurd (never yes),
      λ is. absurd (never ((c.is_array.ensures value of).1 (other_array c.args.text.now value of is).0)),
    )

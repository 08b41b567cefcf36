use Rattle.std.proofs.Common.{codes, inl, inr, refl}
use Rattle.city_json.specs.Members.{first_named}
use Rattle.city_json.specs.ObjectTexts.{members_of}
use Rattle.city_json.specs.Tree.{null}
use Rattle.city_feature.proofs.NamedTexts.{null_text}
use Rattle.city_feature.proofs.LineTexts.{utf8}
use Rattle.city_feature.proofs.features.LineFaults.{there_or, value_of}
use Rattle.city_feature.proofs.features.LineVertices.{not_both}
use Rattle.city_feature.specs.Shapes.{IsFilledArray, IsFilledObject}
use Rattle.city_feature.proofs.headers.texts.holds_city.Goals as goal

pub returns-then-is_filled_object : goal.returns-then-is_filled_object
returns-then-is_filled_object c =
    let members = members_of c.args.line.now in
    let here = c.value_or-objects.ensures (codes "CityObjects") (utf8 (codes "CityObjects") refl) refl null null_text in
    let test = c.is_filled_object.ensures (value_of (codes "CityObjects") members) here in (
      λ yes. inl ((there_or IsFilledObject (λ is. is) (first_named (codes "CityObjects") members)).0 (test.0 yes)),
      λ holds. c.if-is_filled_object.true,
    )

pub returns-else-is_filled_object : goal.returns-else-is_filled_object
returns-else-is_filled_object c =
    let members = members_of c.args.line.now in
    let objects = c.value_or-objects.ensures (codes "CityObjects") (utf8 (codes "CityObjects") refl) refl null null_text in
    let vertices = c.value_or-vertices.ensures (codes "vertices") (utf8 (codes "vertices") refl) refl null null_text in
    let no = c.is_filled_object.ensures (value_of (codes "CityObjects") members) objects in
    let test = c.is_filled_array.ensures (value_of (codes "vertices") members) vertices in (
      λ yes. inr ((there_or IsFilledArray (λ is. is) (first_named (codes "vertices") members)).0 (test.0 yes)),
      λ holds. elim holds [
        | inl is ↦ absurd (not_both c.is_filled_object.result c.if-is_filled_object.false
            (no.1 ((there_or IsFilledObject (λ is. is) (first_named (codes "CityObjects") members)).1 is)))
        | inr is ↦ test.1 ((there_or IsFilledArray (λ is. is) (first_named (codes "vertices") members)).1 is)
      ],
    )

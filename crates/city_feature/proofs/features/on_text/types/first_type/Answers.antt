use Rattle.std.proofs.Common.{codes, refl, ◌∙◌, ap, ◌++◌}
use Rattle.city_json.specs.ObjectTexts.{members_of}
use Rattle.city_feature.proofs.features.FirstTypes.{type_at, if_some_type}
use Rattle.city_feature.proofs.LineTexts.{utf8}
use Rattle.city_feature.proofs.features.TypeTexts.{text_there}
use Rattle.city_feature.proofs.features.on_text.types.first_type.Goals as goal

pub returns : goal.returns
returns c =
    let all = members_of c.args.line.now in
    if_some_type (λ name. name.now) c.letters_of.result c.in_ok-value.value.now _
    (λ name letters more value_is id says.
    let there = text_there all (codes "id") id c.in_ok-id.id.now
    (c.in_ok-id.ensures.some (codes "id") (utf8 (codes "id") refl) refl) says in
    type_at all id name c.in_ok-objects.objects.now c.in_ok-first.first.now c.in_ok-object.object.now
    c.in_ok-value.value.now more
    (c.in_ok-objects.ensures.some (codes "CityObjects") (utf8 (codes "CityObjects") refl) refl) there.0 letters
    c.in_ok-first.ensures (c.in_ok-object.ensures ∙ ap (λ l. l ++ c.in_ok-object.object.now) there.1)
    c.in_ok-value.ensures value_is)
    c.letters_of.ensures

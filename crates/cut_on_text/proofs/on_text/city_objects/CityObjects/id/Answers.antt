use Rattle.std.proofs.Common.{◌∙◌, ap, arith, refl, subst, sym}
use Rattle.city_json.specs.Bytes.{colon}
use Rattle.city_json.specs.Compact.{quoted}
use Rattle.city_families.specs.Chosen.{named_at}
use Rattle.city_families.specs.Table.{name_in, without_last}
use Rattle.city_families.proofs.Tables.{without_the_last}
use Rattle.cut_on_text.specs.PlacedObjects.{AreObjects}
use Rattle.cut_on_text.proofs.TextFeatures.{name_there}
use Rattle.cut_on_text.proofs.on_text.city_objects.CityObjects.id.Goals as goal

pub returns : goal.returns
returns c = λ pairs are.
    let text = c.self.inside.text.now in
    let places = c.self.inside.places.items in
    let (of, listed) = subst (λ objects. AreObjects objects pairs) (sym c.self.view_is) are in
    c.name_at.ensures ∙ (ap (λ l. name_in text l c.args.at) c.deref.ensures.value
    ∙ (ap without_last (name_there text _ places c.args.at _ pairs
    (omega (arith, c.if-at-len.false, c.len.ensures)) refl of listed)
    ∙ without_the_last (quoted (named_at pairs c.args.at).0) colon))

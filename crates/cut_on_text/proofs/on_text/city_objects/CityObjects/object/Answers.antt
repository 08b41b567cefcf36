use Rattle.std.proofs.Common.{◌∙◌, ◌<◌, ap, arith, length, slice_range, subst, sym}
use Rattle.city_json.specs.declared.compacting.places.MemberPlace.{MemberPlace}
use Rattle.cut_on_text.specs.PlacedObjects.{AreObjects}
use Rattle.cut_on_text.proofs.TextFeatures.{name_there, value_there}
use Rattle.cut_on_text.proofs.TextOverviews.{holders_at}
use Rattle.cut_on_text.proofs.on_text.city_objects.CityObjects.object.Goals as goal

pub returns-clause-holders : goal.returns-clause-holders
returns-clause-holders c = holders_at c.self.inside.text.now c.in_ok-value.value.now c.self.inside.places.items
    c.self.inside.held.items c.args.at c.part-part.result _ c.parts-held.result _ c.self.invariant
    (omega (arith, c.if-at-len-2.false, c.len-2.ensures)) (c.part-part.ensures ∙ c.index.ensures)
    (c.parts-held.ensures ∙ c.index-2.ensures) c.in_ok-value.ensures.some

pub returns-clause-is : goal.returns-clause-is
returns-clause-is c = λ pairs are.
    let text = c.self.inside.text.now in
    let places = c.self.inside.places.items in
    let (of, listed) = subst (λ objects. AreObjects objects pairs) (sym c.self.view_is) are in
    let part = c.part-part.ensures ∙ c.index.ensures in
    let within : c.args.at < length places = omega (arith, c.if-at-len.false, c.len.ensures) in
    let there = value_there text c.in_ok-value.value.now places c.args.at _ pairs within
    (c.in_ok-value.ensures.some ∙ ap (λ (p : MemberPlace). slice_range text p.value p.end) part) of listed in (
      there.0,
      name_there text c.in_ok-name.name.now places c.args.at _ pairs within
          (c.in_ok-name.ensures.some ∙ ap (λ (p : MemberPlace). slice_range text p.at p.value) part) of listed,
      there.2,
    )

use Rattle.std.proofs.Common.{IsTrue, ◌↔◌, false, refl, subst, sym, codes}
use Rattle.city_json.specs.Parts.{AreParts}
use Rattle.city_json.specs.Tree.{array, no_items}
use Rattle.city_feature.proofs.LineTexts.{utf8}
use Rattle.city_families.specs.CityObjects.{IsCityObject}
use Rattle.cut_on_text.proofs.CityShapes.{by_children, no_object, no_parents}
use Rattle.cut_on_text.proofs.TextDocuments.{empty_array}
use Rattle.cut_on_text.proofs.TextObjects.{of_object}
use Rattle.cut_on_text.proofs.on_text.faults.is_city_object.Goals as goal

pub returns-then-not-is_object : goal.returns-then-not-is_object
returns-then-not-is_object c = no_object c.args.text.now c.is_object.result c.is_object.ensures
    c.if-not-is_object.true

pub returns-then-not-is_array_of_texts : goal.returns-then-not-is_array_of_texts
returns-then-not-is_array_of_texts c = of_object (λ v. IsTrue false ↔ IsCityObject v) c.args.text.now
    c.in_ok-parts.parts.items c.in_ok-parts.ensures (λ members of are.
    no_parents c.is_array_of_texts.result members (c.is_array_of_texts.ensures _ (c.in_ok-parents.ensures members of
    (subst (λ p. AreParts 1 p members) (sym c.deref.ensures.value) are) (codes "parents") (utf8 (codes "parents") refl)
    refl (array no_items) empty_array)) c.if-not-is_array_of_texts.true)

pub returns : goal.returns
returns c = of_object (λ v. IsTrue c.is_array_of_texts-2.result ↔ IsCityObject v) c.args.text.now
    c.in_ok-parts.parts.items c.in_ok-parts.ensures (λ members of are.
    by_children c.is_array_of_texts.result c.is_array_of_texts-2.result members
    (c.is_array_of_texts.ensures _ (c.in_ok-parents.ensures members of
    (subst (λ p. AreParts 1 p members) (sym c.deref.ensures.value) are) (codes "parents") (utf8 (codes "parents") refl)
    refl (array no_items) empty_array)) c.if-not-is_array_of_texts.false
    (c.is_array_of_texts-2.ensures _ (c.in_ok-children.ensures members of
    (subst (λ p. AreParts 1 p members) (sym c.deref-2.ensures.value) are) (codes "children")
    (utf8 (codes "children") refl) refl (array no_items) empty_array)))

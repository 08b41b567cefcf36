use Rattle.std.proofs.Common.{◌∙◌, ◌≤◌, ap, codes, length, refl, slice_range, subst, sym}
use Rattle.city_json.proofs.ObjectTexts.{if_none, lies_inside}
use Rattle.city_json.specs.ObjectTexts.{members_of}
use Rattle.city_json.specs.Tree.{null}
use Rattle.city_feature.proofs.NamedTexts.{null_text}
use Rattle.city_feature.proofs.LineTexts.{utf8}
use Rattle.city_feature.proofs.features.LineFaults.{array_value, has_shape, no_vertices_there, of_shape, other_vertices, unshaped, value_of}
use Rattle.city_feature.proofs.features.shape.placed_vertices.Goals as goal

pub returns-then-not-is_feature_type-clause-none : goal.returns-then-not-is_feature_type-clause-none
returns-then-not-is_feature_type-clause-none c =
    let members = members_of c.args.line.now in
    let kind = c.value_or-kind.ensures (codes "type") (utf8 (codes "type") refl) refl null null_text in
    unshaped members _ c.is_feature_type.result c.if-not-is_feature_type.true
    (c.is_feature_type.ensures (value_of (codes "type") members) kind) (λ shape. (of_shape members shape).0)

pub returns-then-not-is_text-clause-none : goal.returns-then-not-is_text-clause-none
returns-then-not-is_text-clause-none c =
    let members = members_of c.args.line.now in
    let id = c.value_or-id.ensures (codes "id") (utf8 (codes "id") refl) refl null null_text in
    unshaped members _ c.is_text.result c.if-not-is_text.true
    (c.is_text.ensures (value_of (codes "id") members) id) (λ shape. (of_shape members shape).1)

pub returns-then-not-is_object-clause-none : goal.returns-then-not-is_object-clause-none
returns-then-not-is_object-clause-none c =
    let members = members_of c.args.line.now in
    let objects = c.value_or-objects.ensures (codes "CityObjects") (utf8 (codes "CityObjects") refl) refl null null_text in
    unshaped members _ c.is_object.result c.if-not-is_object.true
    (c.is_object.ensures (value_of (codes "CityObjects") members) objects) (λ shape. (of_shape members shape).2)

pub returns-in_err-part-clause-none : goal.returns-in_err-part-clause-none
returns-in_err-part-clause-none c =
    if_none c.from_residual.result (no_vertices_there c.args.line.now c.in_err-part.ensures.none)

pub value_in-requires-clause-ordered : goal.value_in-requires-clause-ordered
value_in-requires-clause-ordered c =
    (lies_inside c.args.line.now c.text.ensures.placed _ c.in_ok-part.part c.in_ok-part.ensures.some).0

pub value_in-requires-clause-within : goal.value_in-requires-clause-within
value_in-requires-clause-within c =
    subst (λ l. c.in_ok-part.part.end ≤ length l) (sym c.text.ensures.is)
    (lies_inside c.args.line.now c.text.ensures.placed _ c.in_ok-part.part c.in_ok-part.ensures.some).1

pub returns-then-not-is_array-clause-none : goal.returns-then-not-is_array-clause-none
returns-then-not-is_array-clause-none c =
    let part = c.in_ok-part.part in
    other_vertices c.args.line.now c.text.ensures.placed part c.in_ok-part.ensures.some c.value_in.result.now
    (c.value_in.ensures ∙ ap (λ l. slice_range l part.value part.end) c.text.ensures.is) c.is_array.result
    c.is_array.ensures c.if-not-is_array.true

pub returns-clause-shape : goal.returns-clause-shape
returns-clause-shape c =
    let members = members_of c.args.line.now in
    let part = c.in_ok-part.part in
    let kind = c.value_or-kind.ensures (codes "type") (utf8 (codes "type") refl) refl null null_text in
    let id = c.value_or-id.ensures (codes "id") (utf8 (codes "id") refl) refl null null_text in
    let objects = c.value_or-objects.ensures (codes "CityObjects") (utf8 (codes "CityObjects") refl) refl null null_text in
    has_shape members
    ((c.is_feature_type.ensures (value_of (codes "type") members) kind).0 c.if-not-is_feature_type.false)
    ((c.is_text.ensures (value_of (codes "id") members) id).0 c.if-not-is_text.false)
    ((c.is_object.ensures (value_of (codes "CityObjects") members) objects).0 c.if-not-is_object.false)
    (array_value c.args.line.now c.text.ensures.placed part c.in_ok-part.ensures.some c.value_in.result.now
    (c.value_in.ensures ∙ ap (λ l. slice_range l part.value part.end) c.text.ensures.is) c.is_array.result
    c.is_array.ensures c.if-not-is_array.false)

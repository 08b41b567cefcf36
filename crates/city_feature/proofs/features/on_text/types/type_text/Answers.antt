use Rattle.std.proofs.Common.{◌∙◌, codes, refl, subst, sym, unwrap_or}
use Rattle.std.proofs.lemmas.Result.{IfOk-weaker}
use Rattle.city_json.specs.CompactTexts.{IsCompactOf}
use Rattle.city_json.specs.Members.{first_named}
use Rattle.city_json.specs.ObjectTexts.{members_of}
use Rattle.city_json.specs.Tree.{null}
use Rattle.city_feature.proofs.NamedTexts.{null_text}
use Rattle.city_feature.proofs.LineTexts.{utf8}
use Rattle.city_feature.proofs.features.TypeTexts.{id_there, in_members}
use Rattle.city_feature.specs.Shapes.{member_in}
use Rattle.city_feature.proofs.features.on_text.types.type_text.Goals as goal

pub returns-in_default : goal.returns-in_default
returns-in_default c = λ id says.
    subst (λ o. IsCompactOf (codes "null") (unwrap_or (member_in (codes "type") (member_in id o)) null))
    (sym (c.in_default.ensures.none (codes "CityObjects") refl)) null_text

pub member_text-requires : goal.member_text-requires
member_text-requires c =
    let name = codes "CityObjects" in
    let (value, is, of) = c.in-Some.ensures.some name (utf8 name refl) refl in (value, of)

pub member_text-requires-2 : goal.member_text-requires-2
member_text-requires-2 c =
    let (id, says) = id_there (first_named (codes "id") (members_of c.args.line.now)) c.requires in
    let (id_utf8, named) = c.in_ok-id.ensures id says in
    let name = codes "CityObjects" in
    let (value, is, of) = c.in-Some.ensures.some name (utf8 name refl) refl in
    (_, c.in_ok-object.ensures value of id id_utf8 (c.items.ensures ∙ named))

pub returns : goal.returns
returns c = IfOk-weaker c.member_text-2.result _ _ (λ found holds id says.
    let (id_utf8, named) = c.in_ok-id.ensures id says in
    let name = codes "CityObjects" in
    let (value, is, of) = c.in-Some.ensures.some name (utf8 name refl) refl in
    let of_objects = subst (λ o. IsCompactOf c.in-Some.objects.now (unwrap_or o null)) (sym is) of in
    let of_object = c.in_ok-object.ensures _ of_objects id id_utf8 (c.items.ensures ∙ named) in
    subst (λ o. IsCompactOf found.now (unwrap_or o null))
    (in_members id (codes "type") (first_named name (members_of c.args.line.now)))
    (holds _ of_object (codes "type") (utf8 (codes "type") refl) refl)) c.member_text-2.ensures

use Rattle.std.proofs.Common.{IfNone, IfSome, codes, subst, sym, unwrap_or}
use Rattle.city_json.specs.CompactMembers.{HasParts}
use Rattle.city_json.specs.CompactTexts.{IsCompactOf}
use Rattle.city_json.specs.Members.{member_of}
use Rattle.city_json.specs.ObjectTexts.{HasNone, PlacedObject}
use Rattle.city_json.specs.Parts.{IsPartNamed}
use Rattle.city_json.specs.Tree.{MemberTrees, null, object}
use Rattle.city_feature.proofs.NamedTexts.{inside_there, no_object, none_there, null_text, object_there, value_there_or}
use Rattle.city_feature.proofs.features.on_text.types.member_text.Goals as goal

pub returns-in_default : goal.returns-in_default
returns-in_default c = λ value of named utf8 is.
    let text = c.args.text.now in
    let none = subst (λ found. IfNone found ((members : MemberTrees) → ¬ IsCompactOf text (object members)))
    c.in_default.is c.in_ok-parts.ensures.none in
    subst (λ o. IsCompactOf (codes "null") (unwrap_or o null)) (sym (no_object text value named none of)) null_text

pub new-requires : goal.new-requires
new-requires c =
    let text = c.args.text.now in
    let has = subst (λ found. IfSome found (λ parts. HasParts text parts.items)) c.in-Some.is c.in_ok-parts.ensures.some in
    let (value, of) = c.requires in
    object_there text c.deref.result.now (subst (HasParts text) (sym c.deref.ensures.value) has) value of

pub returns-in_default-part : goal.returns-in_default-part
returns-in_default-part c = λ value of named utf8 is.
    let text = c.args.text.now in
    let has = subst (λ found. IfSome found (λ parts. HasParts text parts.items)) c.in-Some.is c.in_ok-parts.ensures.some in
    let none = none_there text c.deref.result.now (subst (HasParts text) (sym c.deref.ensures.value) has) value of
    c.args.name.now named (subst (HasNone c.args.name.now) c.new.ensures c.in_default-part.ensures.none) is in
    subst (λ o. IsCompactOf (codes "null") (unwrap_or o null)) (sym none) null_text

pub value_in-requires-clause-ordered : goal.value_in-requires-clause-ordered
value_in-requires-clause-ordered c =
    let text = c.args.text.now in
    let part = c.in-Some-part.part in
    let has = subst (λ found. IfSome found (λ parts. HasParts text parts.items)) c.in-Some.is c.in_ok-parts.ensures.some in
    let (value, of) = c.requires in
    (inside_there text c.deref.result.now (subst (HasParts text) (sym c.deref.ensures.value) has) value of c.args.name.now part
    (subst (λ (there : PlacedObject). IsPartNamed there.text there.parts c.args.name.now part) c.new.ensures
    c.in-Some-part.ensures.some)).0

pub value_in-requires-clause-within : goal.value_in-requires-clause-within
value_in-requires-clause-within c =
    let text = c.args.text.now in
    let part = c.in-Some-part.part in
    let has = subst (λ found. IfSome found (λ parts. HasParts text parts.items)) c.in-Some.is c.in_ok-parts.ensures.some in
    let (value, of) = c.requires in
    (inside_there text c.deref.result.now (subst (HasParts text) (sym c.deref.ensures.value) has) value of c.args.name.now part
    (subst (λ (there : PlacedObject). IsPartNamed there.text there.parts c.args.name.now part) c.new.ensures
    c.in-Some-part.ensures.some)).1

pub returns : goal.returns
returns c = λ value of named utf8 is.
    let text = c.args.text.now in
    let part = c.in-Some-part.part in
    let has = subst (λ found. IfSome found (λ parts. HasParts text parts.items)) c.in-Some.is c.in_ok-parts.ensures.some in
    subst (λ l. IsCompactOf l (unwrap_or (member_of named value) null)) (sym c.value_in.ensures)
    (value_there_or text c.deref.result.now (subst (HasParts text) (sym c.deref.ensures.value) has) value of
    c.args.name.now named part
    (subst (λ (there : PlacedObject). IsPartNamed there.text there.parts c.args.name.now part) c.new.ensures
    c.in-Some-part.ensures.some) utf8 is)

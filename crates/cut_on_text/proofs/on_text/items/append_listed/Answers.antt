use Rattle.std.proofs.Common.{sym, subst, refl, codes}
use Rattle.city_json.proofs.NamedMembers.{absent_there}
use Rattle.city_json.specs.Tree.{object}
use Rattle.city_json.specs.CompactTexts.{IsCompactOf}
use Rattle.cut_on_text.proofs.TextGeometries.{GeometryMade, geometry_absent, geometry_made}
use Rattle.cut_on_text.proofs.TextMembers.{on_some_more}
use Rattle.cut_on_text.proofs.on_text.items.append_listed.Goals as goal

pub returns-in_default-clause-made : goal.returns-in_default-clause-made
returns-in_default-clause-made g c = on_some_more c.append_text.result (λ appended value of.
    let text = c.args.text.now in
    let (members, is_object, are) = c.requires value of.writable of.within of.is in
    let of_object : IsCompactOf text (object members) = subst (IsCompactOf text) is_object of in
    let none = absent_there text _ members _ (codes "boundaries") of_object.is are refl c.in_default.ensures.none in
    subst (GeometryMade _ _ _ _ _ _) (sym is_object)
    (geometry_absent _ text _ _ _ members of_object.is none appended)) c.append_text.ensures

pub returns-clause-made : goal.returns-clause-made
returns-clause-made g c = on_some_more c.append_back.result (λ appended value of.
    let text = c.args.text.now in
    let (members, is_object, are) = c.requires value of.writable of.within of.is in
    let of_object : IsCompactOf text (object members) = subst (IsCompactOf text) is_object of in
    subst (GeometryMade _ _ _ _ _ _) (sym is_object)
    (geometry_made _ text _ _ _ _ _ _ _ c.args.parts.now c.in-Some.part members of_object are
    c.in-Some.ensures.some c.in_ok-boundary.ensures.some c.in_ok-append_front.ensures
    c.in_ok-append_boundary.ensures.made appended)) c.append_back.ensures

use Rattle.std.proofs.Common.{◌∙◌, ap, sym, position}
use Rattle.city_json.specs.Tree.{members_tree}
use Rattle.city_feature.proofs.NamedMembers.{has_name, without_found, without_absent}
use Rattle.cut_by_value.proofs.changes.drop_named.Goals as goal

pub returns-in-Some : goal.returns-in-Some
returns-in-Some c =
    let found = sym (ap (position (has_name c.args.name.now)) c.deref.ensures.value)
    ∙ (sym c.place_of.ensures ∙ c.in-Some.is) in
    ap members_tree c.remove.ensures.items
    ∙ without_found c.args.name.now c.args.members.now.items c.in-Some.place found

pub returns-in_default : goal.returns-in_default
returns-in_default c =
    without_absent c.args.name.now c.args.members.now.items
    (sym (ap (position (has_name c.args.name.now)) c.deref.ensures.value)
    ∙ (sym c.place_of.ensures ∙ c.in_default.is))

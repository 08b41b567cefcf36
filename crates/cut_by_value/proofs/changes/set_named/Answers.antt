use Rattle.std.proofs.Common.{◌∙◌, ap, sym, position}
use Rattle.city_json.specs.Tree.{tree, named_tree, member_trees}
use Rattle.city_feature.proofs.NamedMembers.{has_name, pushed_member, with_found, with_absent}
use Rattle.cut_by_value.proofs.changes.set_named.Goals as goal

pub returns-in-Some-clause-ok : goal.returns-in-Some-clause-ok
returns-in-Some-clause-ok c =
    let found = sym (ap (position (has_name c.args.name.now)) c.deref.ensures.value)
    ∙ (sym c.place_of.ensures ∙ c.in-Some.is) in
    with_found c.args.name.now (tree c.args.value) c.index_mut.result.now c.set_value.new.member
    c.args.members.now.items c.in-Some.place found
    (c.set_value.ensures ∙ ap (λ m. ((named_tree m).0, tree c.args.value)) c.index_mut.ensures.value)

pub returns-clause-ok : goal.returns-clause-ok
returns-clause-ok c =
    let absent = sym (ap (position (has_name c.args.name.now)) c.deref.ensures.value)
    ∙ (sym c.place_of.ensures ∙ c.in_default.is) in
    let pushed = pushed_member c.args.members.now.items c.push.new.self.items c.in_ok-member.member (
      c.args.name.now,
      tree c.args.value,
    ) c.in_ok-push.ensures.items c.in_ok-member.ensures.ok in
    ap member_trees pushed ∙ with_absent c.args.name.now (tree c.args.value) c.args.members.now.items absent

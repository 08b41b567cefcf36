use Rattle.std.proofs.Common.{◌∙◌, ap, map}
use Rattle.city_json.specs.Tree.{members_tree, named_tree, tree}
use Rattle.city_feature.specs.Changes.{without_named}
use Rattle.city_feature.proofs.kinds.Trees.{tree_of_map}
use Rattle.city_feature.proofs.MemberPieces.{length_is_nil, nil_of_map, object_of_both}
use Rattle.city_feature.proofs.joining.members.append_without.Goals as goal

pub returns-clause-ok : goal.returns-clause-ok
returns-clause-ok c =
    let before = c.around.result.0.now in
    let after = c.around.result.1.now in
    rw (ap tree c.in-Map.is ∙ tree_of_map c.in-Map.members)
    (object_of_both c.args.line.now c.append.new.self c.append_members.new.line (map named_tree before)
    c.is_empty.result (c.is_empty.ensures ∙ (length_is_nil before ∙ nil_of_map named_tree before))
    c.in_ok-append.ensures.ok c.in_ok-append_members.ensures.ok c.append_members-2.new.line c.append-2.new.self
    (map named_tree after) (without_named c.args.name.now (members_tree c.in-Map.members.items))
    (rw c.deref.ensures.value at c.around.ensures.dropped)
    c.in_ok-append_members-2.ensures.ok c.in_ok-append-2.ensures.ok)

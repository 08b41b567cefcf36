use Rattle.std.proofs.Common.{◌∙◌, ap, map}
use Rattle.city_grid.specs.Axes.{number_texts, three}
use Rattle.city_json.specs.Tree.{members_tree, named_tree, tree}
use Rattle.city_feature.specs.Changes.{with_named}
use Rattle.city_feature.proofs.kinds.Trees.{tree_of_map}
use Rattle.city_feature.proofs.MemberPieces.{length_is_nil, nil_of_map, object_around}
use Rattle.city_feature.proofs.joining.members.append_with.Goals as goal

pub returns-clause-ok : goal.returns-clause-ok
returns-clause-ok c =
    let before = c.around.result.0.now in
    let after = c.around.result.1.now in
    let value = three (number_texts c.args.numbers.now) in
    rw (ap tree c.in-Map.is ∙ tree_of_map c.in-Map.members)
    (object_around c.args.line.now c.append.new.self c.append_members.new.line (map named_tree before)
    c.is_empty.result (c.is_empty.ensures ∙ (length_is_nil before ∙ nil_of_map named_tree before))
    c.in_ok-append.ensures.ok c.in_ok-append_members.ensures.ok c.args.name.now c.begin_member.new.line
    c.append_three.new.line c.append_members-2.new.line c.append-2.new.self value (map named_tree after)
    (with_named c.args.name.now value (members_tree c.in-Map.members.items))
    (rw c.deref.ensures.value at c.around.ensures.set value)
    c.in_ok-begin_member.ensures.ok c.in_ok-append_three.ensures.ok c.in_ok-append_members-2.ensures.ok
    c.in_ok-append-2.ensures.ok)

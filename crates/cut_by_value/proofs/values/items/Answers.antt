use Rattle.std.proofs.Common.{Some, map, sym, ap, ◌∙◌}
use Rattle.city_json.specs.Tree.{tree, items_tree}
use Rattle.city_families.specs.Items.{items_in}
use Rattle.cut_by_value.proofs.Trees.{items_of_list, tree_of_list}
use Rattle.cut_by_value.proofs.values.items.Goals as goal

pub returns-in-List-clause-list : goal.returns-in-List-clause-list
returns-in-List-clause-list c = ap (map tree) c.deref.ensures.value ∙ sym (items_of_list _ c.in-List.items c.in-List.is)

pub returns-in-List-clause-items : goal.returns-in-List-clause-items
returns-in-List-clause-items c =
    ap items_tree c.deref.ensures.value ∙ sym
    (ap (λ v. items_in (Some (tree v))) c.in-List.is ∙ ap (λ t. items_in (Some t)) (tree_of_list c.in-List.items))

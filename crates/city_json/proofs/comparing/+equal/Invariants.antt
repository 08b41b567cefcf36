use Rattle.std.proofs.Common.{◌≡◌, ◌↔◌, drop}
use Rattle.city_json.specs.Tree.{items_tree, members_tree}
use Rattle.city_json.proofs.comparing.+equal.Given as goal

abbrev pub invariant-equal_items-loop-x : goal.invariant-equal_items-loop-x
invariant-equal_items-loop-x l = (items_tree (drop l.x-index l.a) ≡ items_tree l.rest)
    ↔ (items_tree l.a ≡ items_tree l.b)

abbrev pub invariant-equal_members-loop-x : goal.invariant-equal_members-loop-x
invariant-equal_members-loop-x l = (members_tree (drop l.x-index l.a) ≡ members_tree l.rest)
    ↔ (members_tree l.a ≡ members_tree l.b)

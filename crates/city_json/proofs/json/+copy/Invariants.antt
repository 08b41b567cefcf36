use Rattle.std.proofs.Common.{◌≡◌, map, take}
use Rattle.city_json.specs.Tree.{tree, named_tree}
use Rattle.city_json.proofs.json.+copy.Given as goal

abbrev pub invariant-copy_items-loop-item : goal.invariant-copy_items-loop-item
invariant-copy_items-loop-item l = map tree l.copies.items ≡ map tree (take l.item-index l.items)

abbrev pub invariant-copy_members-loop-member : goal.invariant-copy_members-loop-member
invariant-copy_members-loop-member l = map named_tree l.copies.items ≡ map named_tree (take l.member-index l.members)

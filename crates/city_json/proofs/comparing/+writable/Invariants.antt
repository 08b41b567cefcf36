use Rattle.std.proofs.Common.{drop}
use Rattle.city_json.specs.Tree.{items_tree, members_tree}
use Rattle.city_json.specs.Writable.{AreWritableItems, AreWritableMembers}
use Rattle.city_json.proofs.comparing.+writable.Given as goal

abbrev pub invariant-writable_items-loop-item : goal.invariant-writable_items-loop-item
invariant-writable_items-loop-item l = AreWritableItems (items_tree (drop l.item-index l.items))
    → AreWritableItems (items_tree l.items)

abbrev pub invariant-writable_members-loop-member : goal.invariant-writable_members-loop-member
invariant-writable_members-loop-member l = AreWritableMembers (members_tree (drop l.member-index l.members))
    → AreWritableMembers (members_tree l.members)

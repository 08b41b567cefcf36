use Rattle.std.proofs.Common.{◌≡◌, ◌++◌, length, take, drop}
use Rattle.city_json.specs.Compact.{compact_more_items, compact_more_members}
use Rattle.city_json.specs.Tree.{items_tree, members_tree}
use Rattle.city_json.specs.Writable.{AreWritableItems, AreWritableMembers}
use Rattle.city_json.proofs.printing.+put.Given as goal

abbrev pub invariant-put_items-loop-item : goal.invariant-put_items-loop-item
invariant-put_items-loop-item l =
    (l.line ++ compact_more_items (items_tree (drop l.item-index l.others)) ≡ l.initial.line
    ++ compact_more_items (items_tree l.others))
    × (take (length l.fn.line) l.line ≡ l.fn.line)
    × (AreWritableItems (items_tree (drop l.item-index l.others)) → AreWritableItems (items_tree l.others))

abbrev pub invariant-put_members-loop-member : goal.invariant-put_members-loop-member
invariant-put_members-loop-member l =
    (l.line ++ compact_more_members (members_tree (drop l.member-index l.others)) ≡ l.initial.line
    ++ compact_more_members (members_tree l.others))
    × (take (length l.fn.line) l.line ≡ l.fn.line)
    × (AreWritableMembers (members_tree (drop l.member-index l.others)) → AreWritableMembers (members_tree l.others))

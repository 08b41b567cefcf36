use Rattle.std.proofs.Common.{◌≡◌, None, codes, take}
use Rattle.city_json.specs.Members.{first_named}
use Rattle.city_json.specs.Tree.{members_tree}
use Rattle.city_feature.proofs.features.values.moving.write_members.Given as goal

abbrev pub invariant-loop-member : goal.invariant-loop-member
invariant-loop-member l =
    (l.member-items ≡ l.fn.members.items)
    × (first_named (codes "vertices") (members_tree (take l.member-index l.member-items)) ≡ None)

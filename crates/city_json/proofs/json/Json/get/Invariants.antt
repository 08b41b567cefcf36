use Rattle.std.proofs.Common.{◌≡◌, drop}
use Rattle.city_json.specs.Members.{member_of, first_named}
use Rattle.city_json.specs.Tree.{tree, members_tree}
use Rattle.city_json.proofs.json.Json.get.Given as goal

abbrev pub invariant-loop-member : goal.invariant-loop-member
invariant-loop-member l = first_named l.name (members_tree (drop l.member-index l.member-items))
    ≡ member_of l.name (tree l.self)

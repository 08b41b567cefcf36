use Rattle.std.proofs.Common.{◌≡◌, ◌++◌, drop}
use Rattle.city_json.specs.Tree.{members_tree}
use Rattle.city_feature.specs.Pieces.{members_text}
use Rattle.city_feature.proofs.joining.members.append_members.Given as goal

-- what was appended, and what is still to be appended
abbrev pub invariant-loop-member : goal.invariant-loop-member
invariant-loop-member l = l.line ++ members_text l.is_first (members_tree (drop l.member-index l.members))
    ≡ l.fn.line ++ members_text l.fn.are_first (members_tree l.members)

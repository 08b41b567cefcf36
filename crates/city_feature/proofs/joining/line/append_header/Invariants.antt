use Rattle.std.proofs.Common.{◌≡◌, ◌++◌, drop}
use Rattle.city_json.specs.Compact.{compact_members}
use Rattle.city_json.specs.Tree.{members_tree}
use Rattle.city_grid.specs.Axes.{number_texts}
use Rattle.city_feature.specs.JoinedMembers.{all_changes, joined_members}
use Rattle.city_feature.specs.Pieces.{members_text}
use Rattle.city_feature.specs.Values.{lent_members}
use Rattle.city_feature.proofs.joining.line.append_header.Given as goal

-- what was appended, and what is still to be appended
abbrev pub invariant-loop-member : goal.invariant-loop-member
invariant-loop-member l =
    let extensions = lent_members l.extensions in
    let texts = number_texts l.translation in
    l.line ++ members_text l.is_first
    (joined_members l.changes extensions texts (members_tree (drop l.member-index l.members)))
    ≡ l.fn.line ++ compact_members (joined_members (all_changes extensions) extensions texts (members_tree l.members))

use Rattle.std.proofs.Common.{◌∙◌, ◌++◌, ◌+◌, ap, arith, drop, false}
use Rattle.city_json.specs.Compact.{compact_members}
use Rattle.city_json.specs.Tree.{members_tree}
use Rattle.city_grid.specs.Axes.{number_texts}
use Rattle.city_feature.specs.JoinedMembers.{all_changes, changes_after, joined_members}
use Rattle.city_feature.specs.Pieces.{members_text, start_text}
use Rattle.city_feature.specs.Values.{lent_members}
use Rattle.city_feature.proofs.JoinedMembers.{next_in_header}
use Rattle.city_feature.proofs.joining.line.append_header.Goals as goal

pub loop-member-preserved : goal.loop-member-preserved
loop-member-preserved c =
    let before = c.loop-member in
    let m = c.member-item.result in
    let ms = c.args.members.now in
    let extensions = lent_members c.args.extensions.now in
    let texts = number_texts c.args.translation.now in
    let whole = c.args.line.now
    ++ compact_members (joined_members (all_changes extensions) extensions texts (members_tree ms)) in
    ap (λ changes. c.append_value.new.line
    ++ members_text false (joined_members changes extensions texts (members_tree (drop (before.member-index + 1) ms))))
    (c.changes_after-changes.ensures ∙ ap (changes_after before.changes) c.name_of-name.ensures)
    ∙ next_in_header extensions texts ms before.member-index before.line whole before.is_first before.changes
    c.begin_member.new.line c.append_value.new.line m (omega (arith, c.loop-member-test.true)) c.member-item.is
    (c.in_ok-begin_member.ensures.ok ∙ ap (λ n. before.line ++ start_text before.is_first n) c.name_of-name.ensures)
    c.in_ok-append_value.ensures.ok before.invariant

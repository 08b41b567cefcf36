use Rattle.std.proofs.Common.{◌<◌, length, drop, arith}
use Rattle.city_json.specs.Bytes.{comma}
use Rattle.city_json.specs.Compacting.{shown}
use Rattle.city_json.proofs.Marks.{mark_taken}
use Rattle.city_json.proofs.compacting.marks.after_spaced_member.Goals as goal

pub returns-then-is_before_blank-clause-goes_on : goal.returns-then-is_before_blank-clause-goes_on
returns-then-is_before_blank-clause-goes_on c within going =
    let text = c.args.text.now in
    let next = c.leave_blank.result in
    let draft = c.leave_blank.new.draft in
    let mark = c.is_before_blank.ensures.is c.if-is_before_blank.true in
    let inside : c.args.at < length text = omega (arith, mark.within) in
    mark_taken text (drop next text) (shown draft.line text draft.from next) c.args.draft.now.line c.args.draft.now.from
    c.args.at comma c.requires.copied (omega arith) inside mark.is (c.leave_blank.ensures.skipped within)
    (c.leave_blank.ensures.is_shown within)

use Rattle.std.proofs.Common.{◌<◌, length, drop, arith}
use Rattle.city_json.specs.Compacting.{shown}
use Rattle.city_json.proofs.Marks.{mark_taken}
use Rattle.city_json.proofs.compacting.marks.past_spaced_mark.Goals as goal

pub returns-then-is_before_blank-clause-taken : goal.returns-then-is_before_blank-clause-taken
returns-then-is_before_blank-clause-taken c within =
    let text = c.args.text.now in
    let next = c.leave_blank.result in
    let draft = c.leave_blank.new.draft in
    let mark = c.is_before_blank.ensures.is c.if-is_before_blank.true in
    let inside : c.args.at < length text = omega (arith, mark.within) in
    mark_taken text (drop next text) (shown draft.line text draft.from next) c.args.draft.now.line c.args.draft.now.from
    c.args.at c.args.mark c.requires.copied c.requires.no_white inside mark.is (c.leave_blank.ensures.skipped within)
    (c.leave_blank.ensures.is_shown within)

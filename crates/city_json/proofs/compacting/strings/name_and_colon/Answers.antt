use Rattle.std.proofs.Common.{◌≤◌, ◌<◌, ◌+◌, length, drop, refl, arith}
use Rattle.city_json.specs.Bytes.{colon}
use Rattle.city_json.specs.Compacting.{shown}
use Rattle.city_json.specs.ListedNames.{names_in}
use Rattle.city_json.proofs.Marks.{bare_mark}
use Rattle.city_json.proofs.PassStrings.{start_taken}
use Rattle.city_json.proofs.compacting.strings.name_and_colon.Goals as goal

pub returns-then-is_bare-clause-taken : goal.returns-then-is_bare-clause-taken
returns-then-is_bare-clause-taken c =
    let text = c.args.text.now in
    let names = names_in text in
    let end = c.in_ok-end.end in
    let named = c.name.new.draft in
    let mark = bare_mark named.line text named.from end colon c.in_ok-end.ensures.copied (omega arith)
    (c.is_bare.ensures.is c.if-is_bare.true) in
    start_taken (drop c.args.at text) (drop end text) mark.next (drop (end + 1) text) _ _
    (shown named.line text named.from end) (shown named.line text named.from (end + 1)) _
    (names c.args.draft.now.names) (names named.names) (names named.names) c.in_ok-end.ensures.taken mark.is_next refl
    mark.is_shown mark.starts refl refl

pub returns-clause-taken : goal.returns-clause-taken
returns-clause-taken c =
    let text = c.args.text.now in
    let names = names_in text in
    let end = c.in_ok-end.end in
    let start = c.past_spaced_mark-start.result in
    let named = c.name.new.draft in
    let draft = c.past_spaced_mark-start.new.draft in
    let before_end : start ≤ length text = c.past_spaced_mark-start.ensures.within in
    let inside : start < length text = omega (arith, c.if-start-text.false) in
    let mark = c.past_spaced_mark-start.ensures.taken inside in
    start_taken (drop c.args.at text) (drop end text) mark.next (drop start text) _ _
    (shown named.line text named.from end) (shown draft.line text draft.from start) _ (names c.args.draft.now.names)
    (names named.names) (names draft.names) c.in_ok-end.ensures.taken mark.is_next refl mark.is_shown mark.starts refl
    (c.past_spaced_mark-start.ensures.names inside)

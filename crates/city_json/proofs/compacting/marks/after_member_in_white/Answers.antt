use Rattle.std.proofs.Common.{◌≡◌, ◌≤◌, ◌<◌, length, drop, get_or, arith}
use Rattle.city_json.specs.Bytes.{comma, close_brace}
use Rattle.city_json.specs.Compacting.{shown}
use Rattle.city_json.proofs.Marks.{after_skip}
use Rattle.city_json.proofs.Places.{at_mark, mark_shown}
use Rattle.city_json.proofs.compacting.marks.after_member_in_white.Goals as goal

pub returns-then-text-place-eq125-clause-closes : goal.returns-then-text-place-eq125-clause-closes
returns-then-text-place-eq125-clause-closes c inside closed =
    let text = c.args.text.now in
    let place = c.skip-place.result in
    let draft = c.skip-place.new.draft in
    let is : get_or text place 0 ≡ close_brace = c.if-text-place-eq125.true in
    record {
      is_next = at_mark text (drop c.args.at text) place close_brace (c.skip-place.ensures.skipped inside) inside is;
      is_shown = mark_shown draft.line text _ draft.from place close_brace (c.skip-place.ensures.copied inside) inside is
          (c.skip-place.ensures.is_shown inside);
    }

pub returns-clause-goes_on : goal.returns-clause-goes_on
returns-clause-goes_on c within going =
    let text = c.args.text.now in
    let place = c.skip-place.result in
    let next = c.past_spaced_mark.result in
    let was = c.args.draft.now in
    let mid = c.skip-place.new.draft in
    let draft = c.past_spaced_mark.new.draft in
    let before_end : place ≤ length text = c.skip-place.ensures.within in
    let inside : place < length text = omega (arith, c.if-place-text.false) in
    after_skip comma (drop c.args.at text) (drop place text) (drop next text) (shown was.line text was.from c.args.at)
    (shown mid.line text mid.from place) (shown draft.line text draft.from next) (c.skip-place.ensures.skipped inside)
    (c.skip-place.ensures.is_shown inside) (c.past_spaced_mark.ensures.taken within)

use Rattle.std.proofs.Common.{◌≡◌, ◌≤◌, ◌<◌, ◌+◌, ◌∙◌, length, drop, get_or, arith}
use Rattle.city_json.proofs.Places.{at_mark, mark_shown}
use Rattle.city_json.proofs.compacting.marks.past_mark_in_white.Goals as goal

pub returns-clause-taken : goal.returns-clause-taken
returns-clause-taken c within =
    let text = c.args.text.now in
    let place = c.skip-place.result in
    let draft = c.skip-place.new.draft in
    let before_end : place ≤ length text = c.skip-place.ensures.within in
    let inside : place < length text = omega (arith, c.if-place-text.false) in
    let is : get_or text place 0 ≡ c.args.mark = omega (arith, c.if-text-place.false) in
    record {
      next = drop (place + 1) text;
      is_next = at_mark text (drop c.args.at text) place c.args.mark (c.skip-place.ensures.skipped inside) inside is;
      starts = c.skip.ensures.skipped within;
      is_shown = c.skip.ensures.is_shown within
          ∙ mark_shown draft.line text _ draft.from place c.args.mark (c.skip-place.ensures.copied inside) inside is
          (c.skip-place.ensures.is_shown inside);
    }

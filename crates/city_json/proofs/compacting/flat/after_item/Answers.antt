use Rattle.std.proofs.Common.{◌≡◌, ◌≤◌, ◌<◌, ◌+◌, ◌∙◌, length, drop, get_or, arith}
use Rattle.city_json.specs.Bytes.{comma, close_bracket}
use Rattle.city_json.specs.Compacting.{shown}
use Rattle.city_json.proofs.PassFlat.{none_open, one_closes, one_more}
use Rattle.city_json.proofs.Places.{at_mark, mark_shown}
use Rattle.city_json.proofs.compacting.flat.after_item.Goals as goal

pub closing-preserved : goal.closing-preserved
closing-preserved c =
    let text = c.args.text.now in
    let now = c.closing.draft in
    let draft = c.skip-place.new.draft in
    let place = c.skip-place.result in
    let before_end : place ≤ length text = c.skip-place.ensures.within in
    let inside : place < length text = omega (arith, before_end, c.if-place-text.false) in
    let is_close_bracket : get_or text place 0 ≡ close_bracket = omega (arith, c.if-text-place-ne93.false) in
    let some : 0 < c.closing.left = c.closing-test.true in
    let first : c.args.at ≤ c.closing.end = c.closing.invariant.onward in
    let onward : c.closing.end ≤ place = c.skip-place.ensures.onward inside in
    let copied : draft.from ≤ place = c.skip-place.ensures.copied inside in
    record {
      onward = omega (arith, first, onward);
      within = omega (arith, inside);
      copied = omega (arith, copied);
      fewer = omega (arith, c.closing.invariant.fewer);
      names = c.skip-place.ensures.names inside ∙ c.closing.invariant.names;
      goes_on = λ total rest after further. c.closing.invariant.goes_on total rest after
          (one_closes c.closing.left total (drop c.closing.end text) (drop (place + 1) text) rest
          (shown now.line text now.from c.closing.end) (shown draft.line text draft.from (place + 1)) after some
          (at_mark text (drop c.closing.end text) place close_bracket
          (c.skip-place.ensures.skipped inside) inside is_close_bracket)
          (mark_shown draft.line text (shown now.line text now.from c.closing.end) draft.from place close_bracket copied
          inside is_close_bracket (c.skip-place.ensures.is_shown inside)) further);
    }

pub returns-then-text-place-eq44-clause-goes_on : goal.returns-then-text-place-eq44-clause-goes_on
returns-then-text-place-eq44-clause-goes_on c =
    let text = c.args.text.now in
    let now = c.closing.draft in
    let draft = c.skip-place.new.draft in
    let place = c.skip-place.result in
    let before_end : place ≤ length text = c.skip-place.ensures.within in
    let inside : place < length text = omega (arith, before_end, c.if-place-text.false) in
    let is_comma : get_or text place 0 ≡ comma = c.if-text-place-eq44.true in
    let some : 0 < c.closing.left = c.closing-test.true in
    let copied : draft.from ≤ place = c.skip-place.ensures.copied inside in
    λ total rest after further. c.closing.invariant.goes_on total rest after
    (one_more c.closing.left total (drop c.closing.end text) (drop (place + 1) text) rest
    (shown now.line text now.from c.closing.end) (shown draft.line text draft.from (place + 1)) after some
    (at_mark text (drop c.closing.end text) place comma (c.skip-place.ensures.skipped inside) inside is_comma)
    (mark_shown draft.line text (shown now.line text now.from c.closing.end) draft.from place comma copied inside
    is_comma (c.skip-place.ensures.is_shown inside)) further)

pub returns-clause-goes_on : goal.returns-clause-goes_on
returns-clause-goes_on c =
    λ total rest after further. c.closing.invariant.goes_on total rest after
    (none_open c.closing.left total (drop c.closing.end c.args.text.now) rest
    (shown c.closing.draft.line c.args.text.now c.closing.draft.from c.closing.end) after
    (omega (arith, c.closing-test.false)) further)

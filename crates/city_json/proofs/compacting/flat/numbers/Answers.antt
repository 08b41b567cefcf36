use Rattle.std.proofs.Common.{◌≡◌, ◌≤◌, ◌<◌, ◌+◌, ◌∙◌, length, get_or, arith}
use Rattle.city_json.specs.Bytes.{comma}
use Rattle.city_json.proofs.PassItems.{integer_more, integer_stop}
use Rattle.city_json.proofs.compacting.flat.numbers.Goals as goal

pub numbers-preserved : goal.numbers-preserved
numbers-preserved c =
    let text = c.args.text.now in
    let i = c.numbers.i in
    let now = c.numbers.draft in
    let stop = c.integer_end-stop.result in
    let first : c.args.at ≤ i = c.numbers.invariant.onward in
    let onward : i ≤ stop = c.integer_end-stop.ensures.onward in
    let some : i < stop = omega (arith, onward, c.if-i-stop.false) in
    let last : stop ≤ length text = c.integer_end-stop.ensures.within in
    let further : stop < length text = omega (arith, last, c.if-stop-text.false) in
    let is_comma : get_or text stop 0 ≡ comma = omega (arith, c.if-text-stop-ne44.false) in
    let next : stop + 1 ≤ c.in_ok-i.i = c.in_ok-i.ensures.onward in
    record {
      onward = omega (arith, first, onward, next);
      within = c.in_ok-i.ensures.within;
      copied = c.in_ok-i.ensures.copied;
      names = c.in_ok-i.ensures.names ∙ c.numbers.invariant.names;
      goes_on = λ levels rest after from. c.numbers.invariant.goes_on levels rest after
          (integer_more levels text now.line rest after now.from i stop c.numbers.invariant.copied some further
          (c.integer_end-stop.ensures.is some) (c.integer_end-stop.ensures.clear some) is_comma
          (c.in_ok-i.ensures.goes_on levels rest after from));
    }

pub returns-then-text-stop-eq93-clause-closes : goal.returns-then-text-stop-eq93-clause-closes
returns-then-text-stop-eq93-clause-closes c =
    let text = c.args.text.now in
    let i = c.numbers.i in
    let now = c.numbers.draft in
    let stop = c.integer_end-stop.result in
    let onward : i ≤ stop = c.integer_end-stop.ensures.onward in
    let some : i < stop = omega (arith, onward, c.if-i-stop.false) in
    let last : stop ≤ length text = c.integer_end-stop.ensures.within in
    let further : stop < length text = omega (arith, last, c.if-stop-text.false) in
    λ closed levels. c.numbers.invariant.goes_on levels _ _
    (integer_stop levels text now.line now.from i stop c.numbers.invariant.copied some further
    (c.integer_end-stop.ensures.is some) (c.integer_end-stop.ensures.clear some) c.if-text-stop-eq93.true)

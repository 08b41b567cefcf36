use Rattle.std.proofs.Common.{◌∙◌, ◌+◌, ap, sym, arith, drop}
use Rattle.std.specs.Char.{is_ascii_digit}
use lib.Count.{count_trailing_zeros}
use Rattle.city_json.proofs.DigitRuns.{digits_go_on, digits_stop, past_at, same_rest}
use Rattle.city_json.proofs.Runs.{run_within}
use Rattle.city_json.proofs.reading.digits.digits_end_slowly.Goals as goal

pub returns-then-stops-ne0-clause-within : goal.returns-then-stops-ne0-clause-within
returns-then-stops-ne0-clause-within c =
    let found = c.not_digits-stops.ensures in
    let run = digits_stop c.args.text.now c.loop-end.end (omega arith) (omega (arith, found))
    ∙ ap (count_trailing_zeros 64) (sym found) in
    omega (arith, run, run_within is_ascii_digit c.args.text.now c.loop-end.end c.loop-end.invariant.1)

pub returns-then-stops-ne0-clause-passed : goal.returns-then-stops-ne0-clause-passed
returns-then-stops-ne0-clause-passed c =
    let text = c.args.text.now in
    let found = c.not_digits-stops.ensures in
    let run = digits_stop text c.loop-end.end (omega arith) (omega (arith, found))
    ∙ ap (count_trailing_zeros 64) (sym found) in
    ap (λ n. drop (c.loop-end.end + n) text) (sym run) ∙ ap (λ n. drop n text) (sym c.loop-end.invariant.2)
    ∙ past_at text c.args.at

pub loop-end-preserved : goal.loop-end-preserved
loop-end-preserved c =
    let run = digits_go_on c.args.text.now c.loop-end.end (omega arith) (omega (arith, c.not_digits-stops.ensures)) in
    (omega (arith, c.loop-end.invariant.0), omega arith, omega (arith, run, c.loop-end.invariant.2))

pub returns-clause-passed : goal.returns-clause-passed
returns-clause-passed c =
    c.last_digits_end.ensures.passed
    ∙ same_rest c.args.text.now c.args.at c.loop-end.end (sym c.loop-end.invariant.2)

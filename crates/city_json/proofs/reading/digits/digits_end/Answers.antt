use Rattle.std.proofs.Common.{◌+◌, ap, ◌∙◌, sym, arith, drop}
use Rattle.std.proofs.lemmas.List.{drop-drop}
use Rattle.std.specs.Char.{is_ascii_digit}
use Rattle.std.specs.List.{prefix_len}
use lib.Count.{count_trailing_zeros}
use Rattle.city_json.proofs.DigitRuns.{digits_stop, past_is}
use Rattle.city_json.proofs.Runs.{run_within}
use Rattle.city_json.proofs.reading.digits.digits_end.Goals as goal

pub returns-then-stops-ne0-clause-within : goal.returns-then-stops-ne0-clause-within
returns-then-stops-ne0-clause-within c =
    let found = c.not_digits-stops.ensures in
    let run = digits_stop c.args.text.now c.args.at (omega arith) (omega (arith, found))
    ∙ ap (count_trailing_zeros 64) (sym found) in
    omega (arith, run, run_within is_ascii_digit c.args.text.now c.args.at c.requires)

pub returns-then-stops-ne0-clause-passed : goal.returns-then-stops-ne0-clause-passed
returns-then-stops-ne0-clause-passed c =
    let found = c.not_digits-stops.ensures in
    let run = digits_stop c.args.text.now c.args.at (omega arith) (omega (arith, found))
    ∙ ap (count_trailing_zeros 64) (sym found) in
    ap (λ n. drop (c.args.at + n) c.args.text.now) (sym run)
    ∙ (sym (drop-drop (prefix_len is_ascii_digit (drop c.args.at c.args.text.now)) c.args.at c.args.text.now)
    ∙ past_is (drop c.args.at c.args.text.now))

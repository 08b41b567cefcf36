use Rattle.std.proofs.Common.{◌≡◌, ◌-◌, ◌+◌, ◌∙◌, ap, sym, arith, drop}
use Rattle.core.proofs.dec2flt.Rows.{AllDigits-digits_len}
use Rattle.std.specs.Char.{is_ascii_digit}
use Rattle.std.specs.List.{prefix_len}
use Rattle.std.specs.Int.Count.{count_trailing_zeros}
use Rattle.city_json.proofs.DigitRuns.{digits_stop}
use Rattle.city_grid.proofs.vertices.texts.few_digits_end.Goals as goal

pub returns-clause-digits : goal.returns-clause-digits
returns-clause-digits c =
    let text = c.args.text.now in
    let at = c.args.at in
    let found = c.not_digits-stops.ensures in
    let run : prefix_len is_ascii_digit (drop at text) ≡ count_trailing_zeros 64 c.not_digits-stops.result =
    digits_stop text at (omega arith) (omega (arith, found, c.if-stops-eq0.false))
    ∙ ap (count_trailing_zeros 64) (sym found) in
    AllDigits-digits_len (drop at text) (at + count_trailing_zeros 64 c.not_digits-stops.result - at)
    (omega (arith, run))

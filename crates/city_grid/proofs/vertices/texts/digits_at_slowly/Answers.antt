use Rattle.std.proofs.Common.{◌-◌, ◌<◌, ◌^◌, arith, drop, refl, slice_range}
use Rattle.core.proofs.dec2flt.Rows.{AllDigits-digits_len}
use Rattle.std.specs.Str.Parse.{AllDigits, digits_value}
use Rattle.city_grid.proofs.vertices.VertexTexts.{few_digits}
use Rattle.city_grid.proofs.vertices.texts.digits_at_slowly.Goals as goal

pub returns-clause-digits : goal.returns-clause-digits
returns-clause-digits c =
    let is = c.read_digits-end.ensures in
    let end = c.read_digits-end.result.0 in
    AllDigits-digits_len (drop c.args.at c.args.text.now) (end - c.args.at) (omega (arith, is.end))

pub returns-clause-value : goal.returns-clause-value
returns-clause-value c =
    let is = c.read_digits-end.ensures in
    let end = c.read_digits-end.result.0 in
    let text = c.args.text.now in
    let digits : AllDigits 10 (slice_range text c.args.at end) =
    AllDigits-digits_len (drop c.args.at text) (end - c.args.at) (omega (arith, is.end)) in
    let value = digits_value 10 (slice_range text c.args.at end) in
    let small : value < 10 ^ 16 = few_digits text c.args.at end value 16 is.within
    (omega (arith, c.if-end-at-gt-MAX_DIGITS.false)) digits refl in
    omega (arith, is.value, small)

use Rattle.std.proofs.Common.{◌≡◌, ◌^◌, ◌<◌, ap, refl, subst, arith, take}
use Rattle.std.proofs.lemmas.List.{take_all}
use Rattle.std.specs.Str.Parse.{digits_value}
use Rattle.core.proofs.dec2flt.Rows.{digit_is, value_below}
use Rattle.city_grid.proofs.decimals.DigitValues.{value_after_more}
use Rattle.city_grid.proofs.vertices.digits.value_by_digits.Goals as goal

pub loop-digit-preserved : goal.loop-digit-preserved
loop-digit-preserved c digits =
    let ds = c.args.digits.now in
    let i = c.loop-digit.digit-index in
    omega (
      arith,
      c.from.ensures,
      digit_is ds i _ digits (omega arith) refl,
      c.loop-digit.invariant digits,
      value_after_more 0 ds i (omega arith),
    )

pub returns : goal.returns
returns c digits =
    let ds = c.args.digits.now in
    let i = c.loop-digit.digit-index in
    let whole : take i ds ≡ ds = take_all i ds (omega (arith, c.loop-digit-test.false)) in
    let small : digits_value 10 ds < 10 ^ 8 =
    subst (λ xs. digits_value 10 xs < 10 ^ 8) (take_all 8 ds c.requires) (value_below ds 0 8 digits) in
    omega (arith, c.loop-digit.invariant digits, ap (digits_value 10) whole, small)

use Rattle.std.proofs.Common.{arith, get_or}
use Rattle.std.specs.Char.{digit_value}
use Rattle.city_grid.proofs.decimals.DigitValues.{digit_below, value_after_more}
use Rattle.city_grid.proofs.vertices.IntegerTexts.{capped_more}
use Rattle.city_grid.proofs.vertices.integers.capped_value.Goals as goal

pub digit_of-requires : goal.digit_of-requires
digit_of-requires c = digit_below c.args.digits.now c.loop-digit.digit-index c.requires (omega arith)

pub append_digit-size-requires : goal.append_digit-size-requires
append_digit-size-requires c = (
  c.loop-digit.invariant.small,
  omega (arith, c.digit_of.ensures, digit_below c.args.digits.now c.loop-digit.digit-index c.requires (omega arith)),
)

pub loop-digit-preserved : goal.loop-digit-preserved
loop-digit-preserved c =
    let ds = c.args.digits.now in
    let i = c.loop-digit.digit-index in
    record {
      value = capped_more _ _ c.loop-digit.size c.append_digit-size.result
          (digit_value (get_or ds i 0)) c.loop-digit.invariant.value
          (λ within. omega (arith, c.append_digit-size.ensures.more within)) c.append_digit-size.ensures.large
          (value_after_more 0 ds i (omega arith));
      small = c.append_digit-size.ensures.small;
    }

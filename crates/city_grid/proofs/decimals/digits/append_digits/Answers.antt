use Rattle.std.proofs.Common.{◌+◌, arith}
use Rattle.city_grid.proofs.decimals.DigitValues.{digit_below, value_after_more, value_after_part}
use Rattle.city_grid.proofs.decimals.digits.append_digits.Goals as goal

pub digit_of-requires : goal.digit_of-requires
digit_of-requires c = digit_below c.args.digits.now c.loop-digit.digit-index c.requires.digits (omega arith)

pub returns-then-value-ge-BOUND : goal.returns-then-value-ge-BOUND
returns-then-value-ge-BOUND c =
    λ small. omega (
      arith,
      value_after_more c.args.value c.args.digits.now c.loop-digit.digit-index (omega arith),
      value_after_part c.args.value c.args.digits.now (c.loop-digit.digit-index + 1),
    )

pub loop-digit-preserved : goal.loop-digit-preserved
loop-digit-preserved c = (
  omega arith,
  omega (arith, value_after_more c.args.value c.args.digits.now c.loop-digit.digit-index (omega arith)),
)

use Rattle.std.proofs.Common.{arith}
use Rattle.city_grid.proofs.decimals.DigitValues.{digit_below, value_after_more}
use Rattle.city_grid.proofs.decimals.digits.saturated_value.Goals as goal

pub digit_of-requires : goal.digit_of-requires
digit_of-requires c = digit_below c.args.digits.now c.loop-digit.digit-index c.requires (omega arith)

pub loop-digit-preserved : goal.loop-digit-preserved
loop-digit-preserved c = omega (arith, value_after_more 0 c.args.digits.now c.loop-digit.digit-index (omega arith))

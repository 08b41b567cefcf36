use Rattle.std.proofs.Common.{arith}
use Rattle.std.proofs.lemmas.Str.Parse.{digit_from_value}
use Rattle.city_grid.proofs.decimals.DigitValues.{digit_byte}
use Rattle.city_grid.proofs.decimals.digits.digit_of.Goals as goal

pub overflow_sub-result : goal.overflow_sub-result
overflow_sub-result c = (digit_from_value c.args.byte c.requires).0

pub returns : goal.returns
returns c = omega (arith, digit_byte c.args.byte (digit_from_value c.args.byte c.requires))

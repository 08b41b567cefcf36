use Rattle.std.proofs.Common.{◌≡◌, ◌<◌, take}
use Rattle.std.specs.Str.Parse.{digits_value_after}
use Rattle.city_grid.specs.Decimal.{decimal_bound}
use Rattle.city_grid.proofs.decimals.digits.append_digits.Given as goal

abbrev pub invariant-loop-digit : goal.invariant-loop-digit
invariant-loop-digit l = (l.value < decimal_bound)
    × (l.value ≡ digits_value_after 10 l.fn.value (take l.digit-index l.digits))

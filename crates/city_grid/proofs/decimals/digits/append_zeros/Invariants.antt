use Rattle.std.proofs.Common.{◌≡◌, ◌*◌, ◌^◌, ◌<◌}
use Rattle.city_grid.specs.Decimal.{decimal_bound}
use Rattle.city_grid.proofs.decimals.digits.append_zeros.Given as goal

abbrev pub invariant-loop : goal.invariant-loop
invariant-loop l = (0 < l.value) × (l.value < decimal_bound) × (l.value ≡ l.fn.value * 10 ^ l.counter)

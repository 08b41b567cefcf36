use Rattle.std.proofs.Common.{◌∙◌, ap}
use Rattle.std.specs.Option.{ok_or}
use Rattle.byte_streams.specs.declared.fault.Fault.TheVariants.{Decimal}
use Rattle.city_grid.proofs.decimals.reader.decimal.Goals as goal

pub returns-clause-only : goal.returns-clause-only
returns-clause-only c = λ n units. c.ok_or.ensures.value
    ∙ ap (λ found. ok_or found Decimal) (c.decimal_of.ensures.only n units)

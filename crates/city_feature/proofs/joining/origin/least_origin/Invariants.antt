use Rattle.std.proofs.Common.{map, take}
use Rattle.city_grid.specs.Axes.{number_texts}
use Rattle.city_feature.specs.Origin.{IsOrigin}
use Rattle.city_feature.specs.Values.{header_value}
use Rattle.city_feature.specs.declared.base.Base.TheVariants.{Least}
use Rattle.city_feature.proofs.joining.origin.least_origin.Given as goal

abbrev pub invariant-loop-header : goal.invariant-loop-header
invariant-loop-header l = IsOrigin Least (header_value l.first)
    (map header_value (take l.header-index l.others)) l.origin.transform (number_texts l.origin.translation)

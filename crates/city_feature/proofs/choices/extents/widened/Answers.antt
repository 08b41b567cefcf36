use Rattle.std.proofs.Common.{◌≡◌, to_z, of_z, w64, arith}
use Rattle.std.proofs.lemmas.Int.{ints}
use Rattle.city_feature.proofs.choices.Ranges.{least_of_two, greatest_of_two}
use Rattle.city_feature.proofs.choices.extents.widened.Goals as goal

pub returns-clause-least : goal.returns-clause-least
returns-clause-least c =
    let kept : to_z w64 (of_z w64 c.args.range.least) ≡ c.args.range.least = omega (arith, ints, c.well_formed) in
    let kept_number : to_z w64 (of_z w64 c.args.number) ≡ c.args.number = omega (arith, ints, c.ranges.number) in
    let kept_min : to_z w64 (of_z w64 c.min.result) ≡ c.min.result = omega (arith, ints, c.min.type_inv) in
    least_of_two _ _ _ _ _ _ kept kept_number kept_min c.min.ensures.value

pub returns-clause-greatest : goal.returns-clause-greatest
returns-clause-greatest c =
    let kept : to_z w64 (of_z w64 c.args.range.greatest) ≡ c.args.range.greatest = omega (arith, ints, c.well_formed) in
    let kept_number : to_z w64 (of_z w64 c.args.number) ≡ c.args.number = omega (arith, ints, c.ranges.number) in
    let kept_max : to_z w64 (of_z w64 c.max.result) ≡ c.max.result = omega (arith, ints, c.max.type_inv) in
    greatest_of_two _ _ _ _ _ _ kept kept_number kept_max c.max.ensures.value

use Rattle.std.proofs.Common.{◌≡◌, ◌∙◌, [], to_z, of_z, w64, refl, arith}
use Rattle.std.proofs.lemmas.Int.{ints}
use Rattle.city_feature.proofs.choices.Ranges.{extent_begins}
use Rattle.city_feature.proofs.choices.extents.extent_at.Goals as goal

pub returns : goal.returns
returns c =
    let steps = c.args.steps in
    let x : to_z w64 (of_z w64 steps.x) ≡ steps.x = omega (arith, ints, c.well_formed) in
    let y : to_z w64 (of_z w64 steps.y) ≡ steps.y = omega (arith, ints, c.well_formed) in
    let ranges = c.range_at.ensures in
    let others = c.range_at-2.ensures in
    extent_begins [] steps (record { x = c.range_at.result; y = c.range_at-2.result }) refl
    (ranges.least ∙ x) (ranges.greatest ∙ x) (others.least ∙ y) (others.greatest ∙ y)

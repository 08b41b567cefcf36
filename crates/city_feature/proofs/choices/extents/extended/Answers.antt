use Rattle.std.proofs.Common.{◌≡◌, ◌∙◌, to_z, of_z, w64, arith}
use Rattle.std.proofs.lemmas.Int.{ints}
use Rattle.city_grid.specs.Axes.{triple}
use Rattle.city_feature.proofs.choices.Ranges.{extent_begins, extent_more}
use Rattle.city_feature.proofs.choices.extents.extended.Goals as goal

pub returns-in_default : goal.returns-in_default
returns-in_default c = λ read z so_far.
    let plan = c.args.plan in
    let x : to_z w64 (of_z w64 plan.x) ≡ plan.x = omega (arith, ints, c.well_formed) in
    let y : to_z w64 (of_z w64 plan.y) ≡ plan.y = omega (arith, ints, c.well_formed) in
    let none = rw c.in_default.is at so_far in
    let ranges = c.range_at.ensures in
    let others = c.range_at-in_default.ensures in
    extent_begins read (triple plan.x plan.y z) (record { x = c.range_at.result; y = c.range_at-in_default.result }) none
    (ranges.least ∙ x) (ranges.greatest ∙ x) (others.least ∙ y) (others.greatest ∙ y)

pub returns : goal.returns
returns c = λ read z so_far.
    let plan = c.args.plan in
    let x : to_z w64 (of_z w64 plan.x) ≡ plan.x = omega (arith, ints, c.well_formed) in
    let y : to_z w64 (of_z w64 plan.y) ≡ plan.y = omega (arith, ints, c.well_formed) in
    let before = rw c.in-Some.is at so_far in
    extent_more read (triple plan.x plan.y z) _ _ c.in-Some.extent _ x y before c.widened.ensures.least
    c.widened.ensures.greatest c.widened-2.ensures.least c.widened-2.ensures.greatest

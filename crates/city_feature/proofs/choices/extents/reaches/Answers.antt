use Rattle.std.proofs.Common.{◌≡◌, ◌∙◌, sym, to_z, of_z, w64, false, true, refl, arith}
use Rattle.std.proofs.lemmas.Int.{ints}
use Rattle.city_feature.proofs.choices.Ranges.{meets_as_ranges}
use Rattle.city_feature.proofs.choices.extents.reaches.Goals as goal

pub returns-then-overlaps : goal.returns-then-overlaps
returns-then-overlaps c = λ vertices extent.
    let area = c.args.area.now in
    let min_x : to_z w64 (of_z w64 area.min_x) ≡ area.min_x = omega (arith, ints, c.well_formed) in
    let min_y : to_z w64 (of_z w64 area.min_y) ≡ area.min_y = omega (arith, ints, c.well_formed) in
    let max_x : to_z w64 (of_z w64 area.max_x) ≡ area.max_x = omega (arith, ints, c.well_formed) in
    let max_y : to_z w64 (of_z w64 area.max_y) ≡ area.max_y = omega (arith, ints, c.well_formed) in
    let met = meets_as_ranges area vertices c.args.extent _ _ _ _ min_x min_y max_x max_y extent in (
      λ yes. met.0 (c.overlaps.ensures.0 c.if-overlaps.true, c.overlaps-then-overlaps.ensures.0 yes),
      λ meets. c.overlaps-then-overlaps.ensures.1 (met.1 meets).1,
    )

pub returns-else-overlaps : goal.returns-else-overlaps
returns-else-overlaps c = λ vertices extent.
    let area = c.args.area.now in
    let min_x : to_z w64 (of_z w64 area.min_x) ≡ area.min_x = omega (arith, ints, c.well_formed) in
    let max_x : to_z w64 (of_z w64 area.max_x) ≡ area.max_x = omega (arith, ints, c.well_formed) in
    let met = meets_as_ranges area vertices c.args.extent _ area.min_y _ area.max_y min_x refl max_x refl extent in (
      λ yes. let never : false ≡ true = sym c.if-overlaps.false ∙ yes in absurd cc,
      λ meets. c.overlaps.ensures.1 (met.1 meets).0,
    )

use Rattle.std.proofs.Common.{◌≡◌, ◌∙◌, get_or, to_z, of_z, w64, arith}
use Rattle.std.proofs.lemmas.Int.{ints}
use Rattle.city_feature.proofs.choices.Ranges.{range_with_next}
use Rattle.city_feature.proofs.choices.extents.extent_of.Goals as goal

pub loop-vertex-preserved : goal.loop-vertex-preserved
loop-vertex-preserved c =
    let others = c.args.others.now in
    let i = c.loop-vertex.vertex-index in
    let steps = c.steps-steps.result in
    let at : steps ≡ get_or others i c.vertex-item.result = c.steps-steps.ensures.value ∙ c.vertex-item.is in
    let range = c.steps-steps.ensures.range in
    let x : to_z w64 (of_z w64 steps.x) ≡ steps.x = omega (arith, ints, range.0) in
    let y : to_z w64 (of_z w64 steps.y) ≡ steps.y = omega (arith, ints, range.1) in (
      range_with_next (λ p. p.x) c.args.first others i c.vertex-item.result steps _ _ _
          (omega arith) at x c.loop-vertex.invariant.0 c.widened.ensures.least c.widened.ensures.greatest,
      range_with_next (λ p. p.y) c.args.first others i c.vertex-item.result steps _ _ _
          (omega arith) at y c.loop-vertex.invariant.1 c.widened-in-loop-vertex.ensures.least
          c.widened-in-loop-vertex.ensures.greatest,
    )

use Rattle.std.proofs.Common.{◌∙◌, ap, sym, subst, arith}
use Rattle.std.proofs.lemmas.Result.{err_from_is_err_and}
use Rattle.city_grid.specs.Axes.{IsInRange, sum}
use Rattle.city_feature.proofs.features.InPlace.{moved_on, leaves_range, range_on}
use Rattle.city_feature.proofs.features.moving.moved_all.Goals as goal

pub returns-in_err-vertex-clause-refusal : goal.returns-in_err-vertex-clause-refusal
returns-in_err-vertex-clause-refusal c =
    let p = err_from_is_err_and c.from_residual.result c.from_residual.ensures.1 in
    let refused = c.in_err-vertex.ensures.refusal in
    let out = subst (λ vertex. ¬ IsInRange (sum vertex c.args.shift)) (sym c.vertex-item.is) refused.1 in
    rw (p.1, p.2) (
      refused.0,
      leaves_range c.args.vertices.items c.loop-vertex.vertex-items c.args.shift
          c.loop-vertex.vertex-index c.vertex-item.result
          (omega (arith, c.loop-vertex-test.true, c.loop-vertex.auto.vertex-items)) c.vertex-item.is
          c.loop-vertex.invariant.0 out,
    )

pub loop-vertex-preserved : goal.loop-vertex-preserved
loop-vertex-preserved c = (
  moved_on c.args.vertices.items c.loop-vertex.vertex-items c.args.shift c.loop-vertex.vertex-index c.vertex-item.result
      (omega (arith, c.loop-vertex-test.true, c.loop-vertex.auto.vertex-items)) c.vertex-item.is
      c.loop-vertex.invariant.0 c.in_ok-vertex.field-0 (c.in_ok-vertex.ensures.ok
      ∙ ap (λ vertex. sum vertex c.args.shift) (sym c.vertex-item.is)),
  range_on c.loop-vertex.vertex-items c.loop-vertex.vertex-index c.in_ok-vertex.field-0
      (omega (arith, c.loop-vertex-test.true, c.loop-vertex.auto.vertex-items)) c.loop-vertex.invariant.1
      c.in_ok-vertex.ensures.range,
)

use Rattle.std.proofs.Common.{◌≡◌, ◌∙◌, ap, arith, of_z, sym, to_z, w64}
use Rattle.std.proofs.lemmas.Int.{ints}
use Rattle.std.specs.Fmt.{signed_decimal}
use Rattle.city_grid.proofs.vertices.TripleTexts.{plan_is}
use Rattle.city_grid.proofs.vertices.triples.triple_plan_at.Goals as goal

pub returns-clause-is : goal.returns-clause-is
returns-clause-is c = λ end value within triple_of written.
    let ends = c.in_ok-ends.ends in
    let are = c.in_ok-ends.ensures.are in
    let x = to_z w64 (of_z w64 c.in_ok-x.x) in
    let y = to_z w64 (of_z w64 c.in_ok-y.y) in
    let kept_x : x ≡ c.in_ok-x.x = omega (arith, ints) in
    let kept_y : y ≡ c.in_ok-y.y = omega (arith, ints) in
    plan_is c.args.text.now c.args.at end ends.first ends.second ends.third x y value within
    (omega (arith, c.if-at-text.false)) are.0 are.1 are.2
    (λ short. c.in_ok-x.ensures short ∙ ap signed_decimal (sym kept_x))
    (λ short. c.in_ok-y.ensures short ∙ ap signed_decimal (sym kept_y))
    (c.is_near.ensures.0 c.if-not-is_near.false) (c.is_near-else-not-is_near.ensures.0 c.if-not-is_near-2.false)
    triple_of written

pub returns-clause-range : goal.returns-clause-range
returns-clause-range c = (
  c.is_near.ensures.0 c.if-not-is_near.false,
  c.is_near-else-not-is_near.ensures.0 c.if-not-is_near-2.false,
)

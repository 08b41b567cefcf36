use Rattle.std.proofs.Common.{◌≡◌, ◌∙◌, arith, to_z, of_z, w64}
use Rattle.std.proofs.lemmas.Int.{ints}
use Rattle.city_grid.specs.Axes.{triple}
use Rattle.city_grid.proofs.vertices.TripleTexts.{vertex_is}
use Rattle.city_grid.proofs.vertices.triples.triple_vertex_at.Goals as goal

pub returns-clause-is : goal.returns-clause-is
returns-clause-is c = λ end value within triple_of written.
    let ends = c.in_ok-ends.ends in
    let are = c.in_ok-ends.ensures.are in
    let kept_x : to_z w64 (of_z w64 c.in_ok-x.x) ≡ c.in_ok-x.x = omega (arith, ints) in
    let kept_y : to_z w64 (of_z w64 c.in_ok-y.y) ≡ c.in_ok-y.y = omega (arith, ints) in
    let kept_z : to_z w64 (of_z w64 c.in_ok-z.z) ≡ c.in_ok-z.z = omega (arith, ints) in
    vertex_is c.args.text.now c.args.at end ends.first ends.second ends.third c.in_ok-x.x c.in_ok-y.y c.in_ok-z.z
    c.in_ok-vertex.vertex value within (omega (arith, c.if-at-text.false)) are.0 are.1 are.2 c.in_ok-x.ensures
    c.in_ok-y.ensures c.in_ok-z.ensures
    (c.in_ok-vertex.ensures.1 ∙ (λ i. triple (kept_x i) (kept_y i) (kept_z i))) triple_of written

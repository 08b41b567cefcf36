use Rattle.std.proofs.Common.{◌≡◌, subst, sym, to_z, of_z, w64, arith}
use Rattle.std.proofs.lemmas.Int.{ints}
use Rattle.city_grid.specs.Vertex.{IsSameOrLarge}
use Rattle.city_grid.proofs.vertices.reader.all_integers.Goals as goal

pub returns-in_err-integer-clause-none : goal.returns-in_err-integer-clause-none
returns-in_err-integer-clause-none c = rw c.from_residual.ensures (λ p each. c.in_err-integer.ensures.none p.x each.0)

pub returns-in_err-integer-2-clause-none : goal.returns-in_err-integer-2-clause-none
returns-in_err-integer-2-clause-none c =
    rw c.from_residual-in_err-integer-2.ensures (λ p each. c.in_err-integer-2.ensures.none p.y each.1)

pub returns-in_err-integer-3-clause-none : goal.returns-in_err-integer-3-clause-none
returns-in_err-integer-3-clause-none c =
    rw c.from_residual-in_err-integer-3.ensures (λ p each. c.in_err-integer-3.ensures.none p.z each.2)

pub returns-clause-some : goal.returns-clause-some
returns-clause-some c =
    let x = c.in_ok-integer.ensures.some in
    let y = c.in_ok-integer-2.ensures.some in
    let z = c.in_ok-integer-3.ensures.some in
    let kept_x : to_z w64 (of_z w64 c.in_ok-integer.field-0) ≡ c.in_ok-integer.field-0 = omega (arith, ints) in
    let kept_y : to_z w64 (of_z w64 c.in_ok-integer-2.field-0) ≡ c.in_ok-integer-2.field-0 = omega (arith, ints) in
    let kept_z : to_z w64 (of_z w64 c.in_ok-integer-3.field-0) ≡ c.in_ok-integer-3.field-0 = omega (arith, ints) in (
      record { x = x.0; y = y.0; z = z.0 },
      (x.1, y.1, z.1),
      subst (IsSameOrLarge x.0) (sym kept_x) x.2,
      subst (IsSameOrLarge y.0) (sym kept_y) y.2,
      subst (IsSameOrLarge z.0) (sym kept_z) z.2,
    )

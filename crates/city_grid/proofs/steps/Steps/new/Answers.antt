use Rattle.std.proofs.Common.{◌≡◌, ◌≤◌, ℤ, to_z, of_z, w64, unsigned_abs, arith, subst, sym}
use Rattle.std.proofs.lemmas.Int.{ints}
use Rattle.std.specs.Int.{w128}
use Rattle.byte_streams.specs.Limits.{max_steps}
use Rattle.city_grid.proofs.axes.Triples.{same_triple}
use Rattle.city_grid.proofs.steps.Steps.new.Goals as goal

narrowed : (z : ℤ) → unsigned_abs z ≤ max_steps → to_z w64 (of_z w64 (to_z w128 (of_z w128 z))) ≡ z
narrowed z few = grind (arith, ints)

still_few : (z : ℤ) → unsigned_abs z ≤ max_steps
    → unsigned_abs (to_z w64 (of_z w64 (to_z w128 (of_z w128 z)))) ≤ max_steps
still_few z few = subst (λ n. unsigned_abs n ≤ max_steps) (sym (narrowed z few)) few

few : (z : ℤ) → to_z w128 (of_z w128 z) ≡ z → unsigned_abs (to_z w128 (of_z w128 z)) ≤ max_steps
    → unsigned_abs z ≤ max_steps
few z same small = subst (λ n. unsigned_abs n ≤ max_steps) same small

pub invariant_of-result : goal.invariant_of-result
invariant_of-result c =
    let x = few c.args.axes.x (omega (arith, ints)) (c.is_few.ensures.0 c.if-is_few.true) in
    let y = few c.args.axes.y (omega (arith, ints)) (c.is_few-then-is_few.ensures.0 c.if-is_few-2.true) in
    let z = few c.args.axes.z (omega (arith, ints)) (c.is_few-then-is_few-2.ensures.0 c.if-is_few-3.true) in
    (still_few c.args.axes.x x, still_few c.args.axes.y y, still_few c.args.axes.z z)

pub returns-then-is_few-3 : goal.returns-then-is_few-3
returns-then-is_few-3 c =
    let x = few c.args.axes.x (omega (arith, ints)) (c.is_few.ensures.0 c.if-is_few.true) in
    let y = few c.args.axes.y (omega (arith, ints)) (c.is_few-then-is_few.ensures.0 c.if-is_few-2.true) in
    let z = few c.args.axes.z (omega (arith, ints)) (c.is_few-then-is_few-2.ensures.0 c.if-is_few-3.true) in
    ((x, y, z), same_triple _ _ (narrowed c.args.axes.x x) (narrowed c.args.axes.y y) (narrowed c.args.axes.z z))

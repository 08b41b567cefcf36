use Rattle.std.proofs.Common.{◌≡◌, ◌-ℤ◌, to_z, of_z, arith}
use Rattle.std.specs.Int.{w128}
use Rattle.std.proofs.lemmas.Int.{ints}
use Rattle.city_grid.proofs.shifts.Quotients.{told_none, told_some}
use Rattle.city_grid.proofs.shifts.whole_steps.Goals as goal
use Rattle.city_grid.proofs.shifts.whole_steps.Goals.{After-quotient}

pub overflow_sub-units : goal.overflow_sub-units
overflow_sub-units c = omega (arith, ints)

pub quotient-requires : goal.quotient-requires
quotient-requires c = omega (arith, ints)

step_is : (c : After-quotient) → to_z w128 (of_z w128 c.units-3.result) ≡ c.args.step
step_is c = omega (arith, ints)

difference_is : (c : After-quotient) → to_z w128 (of_z w128 (to_z w128 (of_z w128 c.units.result)
    -ℤ to_z w128 (of_z w128 c.units-2.result))) ≡ c.args.to -ℤ c.args.from
difference_is c = omega (arith, ints)

pub returns-clause-some : goal.returns-clause-some
returns-clause-some c =
    let at = (goal.at.returns-clause-some c).After-quotient in
    told_some _ _ _ _ (step_is at) (difference_is at) c.quotient.result c.quotient.ensures.some

pub returns-clause-none : goal.returns-clause-none
returns-clause-none c =
    let at = (goal.at.returns-clause-none c).After-quotient in
    told_none _ _ _ _ (step_is at) (difference_is at) c.quotient.result c.quotient.ensures.none

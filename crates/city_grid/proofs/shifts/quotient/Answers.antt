use Rattle.std.proofs.Common.{ap, of_z}
use Rattle.std.specs.Int.{w128}
use Rattle.std.proofs.lemmas.Int.{to_z-of_z}
use Rattle.city_grid.proofs.shifts.Quotients.{rem_of_multiple}
use Rattle.city_grid.proofs.shifts.quotient.Goals as goal

pub returns-then-difference-step-ne0-clause-none : goal.returns-then-difference-step-ne0-clause-none
returns-then-difference-step-ne0-clause-none c = λ k equal.
    let a = to_z-of_z w128 c.args.difference c.ranges.difference in
    let d = to_z-of_z w128 c.args.step c.ranges.step in
    c.if-difference-step-ne0.true (rw (a, d) (ap (of_z w128) (rem_of_multiple c.args.difference c.args.step k equal)))

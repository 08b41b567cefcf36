use Rattle.std.proofs.Common.{◌≡◌, ◌∙◌, subst, sym, rules, IfOk, IfErr}
use Rattle.city_grid.specs.Axes.{Triple}
use Rattle.city_grid.specs.Shift.{IsShift, RefusesShift}
use Rattle.city_grid.specs.Transform.{IsAboveZero}
use Rattle.city_grid.proofs.shifts.OneShift.{shift_found, shift_refused, only_shift}
use Rattle.city_grid.proofs.shifts.shift_of.Goals as goal
use Rattle.city_grid.proofs.shifts.shift_of.Goals.{After-ok_or}

abbrev steps : After-ok_or → Triple
steps c = let s = c.in-Some.steps in record { x = s.x; y = s.y; z = s.z }

above_zero : (c : After-ok_or) → IsAboveZero c.args.base.now.scale
above_zero c = subst IsAboveZero c.scale-2.ensures.value c.scale-2.ensures.above_zero

same_scale : (c : After-ok_or) → c.args.tile.now.scale ≡ c.args.base.now.scale
same_scale c =
    let passed_over : c.scale.result ≡ c.scale-2.result = search rules in
    sym c.scale.ensures.value ∙ passed_over ∙ c.scale-2.ensures.value

shift : (c : After-ok_or) → IsShift c.args.tile.now c.args.base.now (steps c)
shift c =
    let found = c.in-Some.ensures.some in
    record { same_scale = same_scale c; x = found.0; y = found.1; z = found.2 }

pub returns-clause-ok : goal.returns-clause-ok
returns-clause-ok c =
    let at = (goal.at.returns-clause-ok c).After-ok_or in
    subst (λ answer. IfOk answer (λ k. IsShift c.args.tile.now c.args.base.now k)) (sym c.ok_or.ensures.value)
    (shift_found c.args.tile.now c.args.base.now (above_zero at) (steps at)
    (shift at) c.of_steps.result c.of_steps.ensures)

pub returns-clause-only : goal.returns-clause-only
returns-clause-only c = λ k other range.
    let at = (goal.at.returns-clause-only c).After-ok_or in
    c.ok_or.ensures.value ∙ only_shift c.args.tile.now c.args.base.now (above_zero at) (steps at)
    (shift at) c.of_steps.result c.of_steps.ensures k other range

pub returns-clause-refusal : goal.returns-clause-refusal
returns-clause-refusal c =
    let at = (goal.at.returns-clause-refusal c).After-ok_or in
    subst (λ answer. IfErr answer (λ fault. RefusesShift fault c.args.tile.now c.args.base.now))
    (sym c.ok_or.ensures.value) (shift_refused c.args.tile.now c.args.base.now (above_zero at) (steps at)
    (shift at) c.of_steps.result c.of_steps.ensures)

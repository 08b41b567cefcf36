use Rattle.std.proofs.Common.{◌<◌, ◌++◌, ◌∙◌, ℕ, ℤ, sym, ap, subst, unsigned_abs, Some, arith}
use Rattle.city_json.specs.Number.{IsNumber}
use Rattle.city_grid.specs.Decimal.{decimal_bound, IsPlaced, IsUnits}
use Rattle.city_grid.proofs.decimals.Units.{IsFound, found_by, digits_are, units_from, units_are, only_is}
use Rattle.city_grid.proofs.decimals.reader.decimal_of.Goals as goal
use Rattle.city_grid.proofs.decimals.reader.decimal_of.Goals.{After-move_place-place}

found_at : (c : After-move_place-place) (n : IsNumber c.args.number.now)
    → IsFound c.args.number.now n c.parts-parts.result.is_negative c.move_place-place.result
found_at c n =
    let parts = c.parts-parts.result in
    found_by c.args.number.now n parts.is_negative c.move_place-place.result parts.whole.now parts.fraction.now
    parts.exponent.now (c.parts-parts.ensures.sign n) (c.parts-parts.ensures.whole n)
    (c.parts-parts.ensures.fraction n)
    (c.parts-parts.ensures.exponent n) c.parts-parts.ensures.digits.0 c.parts-parts.ensures.digits.1
    c.move_place-place.ensures.left c.move_place-place.ensures.right (omega arith) (omega arith)

no_units : (c : After-move_place-place)
    → ((size : ℕ) → size < decimal_bound
    → ¬ IsPlaced (c.parts-parts.result.whole.now ++ c.parts-parts.result.fraction.now) c.move_place-place.result size)
    → (n : ℤ) → ¬ IsUnits c.args.number.now n
no_units c none n units =
    let parts = c.parts-parts.result in
    let found = found_at c units.parts in
    let same = digits_are c.args.number.now units.parts parts.whole.now parts.fraction.now
    (c.parts-parts.ensures.whole units.parts) (c.parts-parts.ensures.fraction units.parts) in
    let are = units_are c.args.number.now parts.is_negative c.move_place-place.result n units found in
    none (unsigned_abs n) units.small
    (subst (λ ds. IsPlaced ds c.move_place-place.result (unsigned_abs n)) (sym same) are.1)

pub returns-in_err-size-clause-none : goal.returns-in_err-size-clause-none
returns-in_err-size-clause-none c =
    rw c.from_residual.ensures (no_units
    (goal.at.returns-in_err-size-clause-none c).After-move_place-place c.in_err-size.ensures.none)

pub returns-in_err-size-clause-only : goal.returns-in_err-size-clause-only
returns-in_err-size-clause-only c = λ n units.
    absurd (no_units (goal.at.returns-in_err-size-clause-only c).After-move_place-place c.in_err-size.ensures.none n
    units)

pub returns-clause-some : goal.returns-clause-some
returns-clause-some c =
    let n = c.parts-parts.ensures.number in
    let parts = c.parts-parts.result in
    let found = found_at (goal.at.returns-clause-some c).After-move_place-place n in
    let same = digits_are c.args.number.now n parts.whole.now parts.fraction.now (c.parts-parts.ensures.whole n)
    (c.parts-parts.ensures.fraction n) in
    let given = c.in_ok-size.ensures.some in
    let size = c.in_ok-size.size in
    subst (IsUnits c.args.number.now) (sym c.with_sign.ensures)
    (units_from c.args.number.now n parts.is_negative c.move_place-place.result size found given.0
    (subst (λ ds. IsPlaced ds c.move_place-place.result size) same given.1))

pub returns-clause-only : goal.returns-clause-only
returns-clause-only c = λ n units.
    let parts = c.parts-parts.result in
    let found = found_at (goal.at.returns-clause-only c).After-move_place-place units.parts in
    let same = digits_are c.args.number.now units.parts parts.whole.now parts.fraction.now
    (c.parts-parts.ensures.whole units.parts) (c.parts-parts.ensures.fraction units.parts) in
    let size = c.in_ok-size.size in
    let placed = subst (λ ds. IsPlaced ds c.move_place-place.result size) same c.in_ok-size.ensures.some.1 in
    ap Some (c.with_sign.ensures ∙ sym
    (only_is c.args.number.now parts.is_negative c.move_place-place.result n units found size placed))

-- Two grids have one shift at most, which is answered where it is in range, and else refused.
use Rattle.std.proofs.Common.{◌≡◌, ◌∙◌, ap, sym, subst, Option, Some, None, Ok, IfOk, IfErr}
use Rattle.std.specs.Option.{SomeIff, ok_or}
use Rattle.byte_streams.specs.declared.fault.Fault.TheVariants.{ShiftRange}
use Rattle.city_grid.specs.Axes.{Triple, IsInRange}
use Rattle.city_grid.specs.Shift.{IsShift, RefusesShift}
use Rattle.city_grid.specs.Transform.{Grid, IsAboveZero}
use Rattle.city_grid.proofs.shifts.Quotients.{same_multiple}
use Rattle.city_grid.proofs.axes.Triples.{same_triple}

-- whole steps, which a shift is made of where they are in range
module _ (tile base : Grid) (above_zero : IsAboveZero base.scale) (steps : Triple)
    (shift : IsShift tile base steps) where
  pub shift_found : (found : Option Triple) → SomeIff found (IsInRange steps) steps
      → IfOk (ok_or found ShiftRange) (λ k. IsShift tile base k)
  shift_found None given = tt
  shift_found (Some k) given = subst (λ k. IsShift tile base k) (sym given.1) shift

  pub shift_refused : (found : Option Triple) → SomeIff found (IsInRange steps) steps
      → IfErr (ok_or found ShiftRange) (λ fault. RefusesShift fault tile base)
  shift_refused None given = (steps, shift, given)
  shift_refused (Some k) given = tt

  only_steps : (k : Triple) → IsShift tile base k → k ≡ steps
  only_steps k other =
      same_triple k steps (same_multiple k.x steps.x base.scale.x above_zero.0 (other.x ∙ sym shift.x))
      (same_multiple k.y steps.y base.scale.y above_zero.1 (other.y ∙ sym shift.y))
      (same_multiple k.z steps.z base.scale.z above_zero.2 (other.z ∙ sym shift.z))

  pub only_shift : (found : Option Triple) → SomeIff found (IsInRange steps) steps → (k : Triple) → IsShift tile base k
      → IsInRange k → ok_or found ShiftRange ≡ Ok k
  only_shift None given k other range = absurd (given (subst IsInRange (only_steps k other) range))
  only_shift (Some found) given k other range = ap Ok (given.1 ∙ sym (only_steps k other))

-- Whole quotients of integers.
use Rattle.std.proofs.Common.{◌≡◌, ◌≢◌, ◌*◌, ◌%◌, ◌<◌, ◌∙◌, sym, ap, ℤ, pos, negsuc, neg_ℤ, ◌*ℤ◌, ◌<ℤ◌, unsigned_abs, suc, true, false, Option, Some, None, IfSome, IfNone, arith}
use Rattle.std.proofs.Math.Nat.{mul-mod_left, eq_of_mul-eq-mul_right}
use Rattle.std.proofs.lemmas.Int.{ints, unsigned_abs-mul}
use Rattle.std.specs.Int.RustNames.{int_rem}
use Rattle.city_grid.specs.Decimal.{signed}
use Rattle.city_grid.proofs.decimals.Equations.{sign_is, size_is}

rem_from_sizes : (a d : ℤ) → unsigned_abs a % unsigned_abs d ≡ 0 → int_rem a d ≡ pos 0
rem_from_sizes (pos a) d none = ap pos none
rem_from_sizes (negsuc a) d none = ap (λ r. neg_ℤ (pos r)) none

pub rem_of_multiple : (a d k : ℤ) → k *ℤ d ≡ a → int_rem a d ≡ pos 0
rem_of_multiple a d k equal =
    let sizes : unsigned_abs a ≡ unsigned_abs k * unsigned_abs d = ap unsigned_abs (sym equal) ∙ unsigned_abs-mul k d in
    rem_from_sizes a d (ap (λ m. m % unsigned_abs d) sizes ∙ mul-mod_left (unsigned_abs k) (unsigned_abs d))

-- equal multiples of a number above 0
pub same_multiple : (k m d : ℤ) → pos 0 <ℤ d → k *ℤ d ≡ m *ℤ d → k ≡ m
same_multiple k m (negsuc n) above equal = absurd (omega (arith, ints))
same_multiple k (pos j) (pos n) above equal =
    let some : 0 < n = omega (arith, ints) in
    sign_is false k j n n some equal
    ∙ ap (signed false) (eq_of_mul-eq-mul_right n some (unsigned_abs k) j (size_is false k j n n equal))
same_multiple k (negsuc j) (pos n) above equal =
    let some : 0 < n = omega (arith, ints) in
    sign_is true k (suc j) n n some equal
    ∙ ap (signed true) (eq_of_mul-eq-mul_right n some (unsigned_abs k) (suc j) (size_is true k (suc j) n n equal))

-- what is told of a quotient is told of an equal difference and an equal step
module _ (s t d e : ℤ) (step : s ≡ t) (difference : d ≡ e) where
  pub told_some : (found : Option ℤ) → IfSome found (λ k. k *ℤ s ≡ d) → IfSome found (λ k. k *ℤ t ≡ e)
  told_some None told = tt
  told_some (Some k) told = ap (λ z. k *ℤ z) (sym step) ∙ told ∙ difference

  pub told_none : (found : Option ℤ) → IfNone found ((k : ℤ) → k *ℤ s ≢ d) → IfNone found ((k : ℤ) → k *ℤ t ≢ e)
  told_none None told = λ k same. told k (ap (λ z. k *ℤ z) step ∙ same ∙ sym difference)
  told_none (Some k) told = tt

-- The equation of a decimal, on sizes: the signs and the moved point taken away.
use Rattle.std.proofs.Common.{◌≡◌, ℕ, ◌+◌, ◌-◌, ◌*◌, ◌^◌, ◌<◌, ◌≤◌, ◌∙◌, sym, ap, refl, min, arith, zero, suc, ⊎_elim, Bool, true, false, ℤ, pos, negsuc, neg_ℤ, ◌*ℤ◌, unsigned_abs}
use Rattle.std.proofs.Math.Nat.{one-le-pow, pow-le-pow_right, mul-le-mul_left, eq_of_mul-eq-mul_right}
use Rattle.std.proofs.lemmas.Nat.{pow-add}
use Rattle.std.proofs.lemmas.Int.{ints, unsigned_abs-mul}
use Rattle.std.proofs.lemmas.Bool.{cases_lt}
use Rattle.city_grid.specs.Decimal.{decimal_bound, signed}

pub abs_signed : (negative : Bool) (size : ℕ) → unsigned_abs (signed negative size) ≡ size
abs_signed true zero = refl
abs_signed true (suc n) = refl
abs_signed false n = refl

pub signed_product : (negative : Bool) (size factor : ℕ)
    → signed negative size *ℤ pos factor ≡ signed negative (size * factor)
signed_product true zero factor = omega (arith, ints)
signed_product true (suc n) factor = refl
signed_product false n factor = refl

not_above : (k size : ℕ) → 0 < k → pos k ≡ neg_ℤ (pos size) → ⊥
not_above zero size some equal = omega arith
not_above (suc k) zero some equal = let apart : suc k ≡ 0 = cc in omega arith
not_above (suc k) (suc n) some equal = cc

-- the sign of a product is that of its first factor
pub sign_is : (negative : Bool) (n : ℤ) (size factor power : ℕ) → 0 < factor
    → n *ℤ pos factor ≡ signed negative size *ℤ pos power → n ≡ signed negative (unsigned_abs n)
sign_is false (pos n) size factor power some equal = refl
sign_is false (negsuc n) size factor power some equal = omega (arith, ints, mul-le-mul_left (suc n) some)
sign_is true (negsuc n) size factor power some equal = refl
sign_is true (pos zero) size factor power some equal = refl
sign_is true (pos (suc n)) size factor power some equal =
    absurd (not_above (suc n * factor) (size * power) (omega (arith, mul-le-mul_left (suc n) some)) (equal
    ∙ signed_product true size power))

pub size_is : (negative : Bool) (n : ℤ) (size factor power : ℕ) → n *ℤ pos factor ≡ signed negative size *ℤ pos power
    → unsigned_abs n * factor ≡ size * power
size_is negative n size factor power equal =
    sym (unsigned_abs-mul n (pos factor)) ∙ ap unsigned_abs equal ∙ unsigned_abs-mul (signed negative size) (pos power)
    ∙ ap (λ m. m * power) (abs_signed negative size)

-- the same ratio at other powers
pub moved_powers : (n m a b c d : ℕ) → a + d ≡ b + c → n * 10 ^ a ≡ m * 10 ^ b → n * 10 ^ c ≡ m * 10 ^ d
moved_powers n m a b c d same equal =
    let powers = ap (λ k. 10 ^ k) same in
    let left : 10 ^ (a + d) ≡ 10 ^ a * 10 ^ d = pow-add 10 a d in
    let right : 10 ^ (b + c) ≡ 10 ^ b * 10 ^ c = pow-add 10 b c in
    let products : 10 ^ a * 10 ^ d ≡ 10 ^ b * 10 ^ c = sym left ∙ powers ∙ right in
    eq_of_mul-eq-mul_right (10 ^ a) (one-le-pow a 10 (omega arith)) (n * 10 ^ c) (m * 10 ^ d)
    (omega (arith, ap (λ x. x * 10 ^ c) equal, ap (λ x. m * x) products))

below_numbers : (n m p q r : ℕ) → 0 < p → 0 < q → m < r → q * r ≤ p → n * p ≡ m * q → (n ≡ 0) × (m ≡ 0)
below_numbers zero zero p q r some others short far equal = (refl, refl)
below_numbers zero (suc m) p q r some others short far equal = absurd (omega arith)
below_numbers (suc n) m p q r some others short far equal = absurd (omega (arith, mul-le-mul_left q short))

-- below one unit there is only 0
pub none_below : (n m a b l : ℕ) → m < 10 ^ l → b + l ≤ a → n * 10 ^ a ≡ m * 10 ^ b → (n ≡ 0) × (m ≡ 0)
none_below n m a b l short far equal =
    let powers : 10 ^ (b + l) ≤ 10 ^ a = pow-le-pow_right (omega arith) far in
    below_numbers n m (10 ^ a) (10 ^ b) (10 ^ l) (one-le-pow a 10 (omega arith)) (one-le-pow b 10 (omega arith)) short
    (omega (arith, pow-add 10 b l)) equal

above_numbers : (n m p q bound : ℕ) → 0 < p → n < bound → p * bound ≤ q → n * p ≡ m * q → (n ≡ 0) × (m ≡ 0)
above_numbers zero zero p q bound some small far equal = (refl, refl)
above_numbers (suc n) zero p q bound some small far equal = absurd (omega arith)
above_numbers n (suc m) p q bound some small far equal = absurd (omega (arith, mul-le-mul_left p small))

-- past the bound there is only 0
pub none_above : (n m l p : ℕ) → n < decimal_bound → l + 36 ≤ p → n * 10 ^ l ≡ m * 10 ^ p → (n ≡ 0) × (m ≡ 0)
none_above n m l p small far equal =
    let powers : 10 ^ (l + 36) ≤ 10 ^ p = pow-le-pow_right (omega arith) far in
    above_numbers n m (10 ^ l) (10 ^ p) decimal_bound (one-le-pow l 10 (omega arith)) small
    (omega (arith, pow-add 10 l 36)) equal

-- both sides 0
of_zeros : (n m a b : ℕ) → (n ≡ 0) × (m ≡ 0) → n * 10 ^ a ≡ m * 10 ^ b
of_zeros n m a b none = ap (λ x. x * 10 ^ a) none.0 ∙ omega (arith, ap (λ x. x * 10 ^ b) none.1)

-- digits before the point, after it, and all; their value; and how far the exponent moves the point
module _ (whole after all mass move size : ℕ) (sum : all ≡ whole + after) (short : mass < 10 ^ all) where
  -- to the left, up to before all digits
  pub placed_left : (place a b : ℕ) → place ≡ (whole + 24) - move → b + move + after ≡ 24 + a
      → size * 10 ^ a ≡ mass * 10 ^ b → size * 10 ^ all ≡ mass * 10 ^ place
  placed_left place a b is apart equal =
      ⊎_elim (λ far. of_zeros size mass all place (none_below size mass a b all short (omega arith) equal))
      (λ near. moved_powers size mass a b all place (omega arith) equal) (cases_lt (whole + 24) move)

  pub scaled_left : (place : ℕ) → place ≡ (whole + 24) - move → size * 10 ^ all ≡ mass * 10 ^ place → (a : ℕ) × (b : ℕ)
      × (b + move + after ≡ 24 + a) × (size * 10 ^ a ≡ mass * 10 ^ b)
  scaled_left place is equal =
      ⊎_elim (λ far. (
        move + after,
        24,
        omega arith,
        of_zeros size mass (move + after) 24 (none_below size mass all place all short (omega arith) equal),
      ))
      (λ near. (all, place, omega arith, equal)) (cases_lt (whole + 24) move)

  -- to the right, as far as numbers go that are counted
  module _ (top : ℕ) (room : all + 36 ≤ top) (small : size < decimal_bound) where
    pub placed_right : (place a b : ℕ) → place ≡ min (whole + 24 + move) top → b + after ≡ move + 24 + a
        → size * 10 ^ a ≡ mass * 10 ^ b → size * 10 ^ all ≡ mass * 10 ^ place
    placed_right place a b is apart equal =
        ⊎_elim (λ far. of_zeros size mass all place
        (none_above size mass all (whole + 24 + move) small (omega arith)
        (moved_powers size mass a b all (whole + 24 + move) (omega arith) equal)))
        (λ near. moved_powers size mass a b all place (omega arith) equal) (cases_lt top (whole + 24 + move))

    pub scaled_right : (place : ℕ) → place ≡ min (whole + 24 + move) top → size * 10 ^ all ≡ mass * 10 ^ place → (a : ℕ)
        × (b : ℕ) × (b + after ≡ move + 24 + a) × (size * 10 ^ a ≡ mass * 10 ^ b)
    scaled_right place is equal =
        ⊎_elim (λ far. (
          all,
          whole + 24 + move,
          omega arith,
          of_zeros size mass all (whole + 24 + move) (none_above size mass all place small (omega arith) equal),
        ))
        (λ near. (all, place, omega arith, equal)) (cases_lt top (whole + 24 + move))

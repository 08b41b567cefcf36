-- The units of a number's text, from its parts and the place of its point.
use Rattle.std.proofs.Common.{◌≡◌, ℕ, ◌+◌, ◌-◌, ◌*◌, ◌^◌, ◌<◌, ◌≤◌, ◌∙◌, sym, ap, refl, subst, min, arith, inl, inr, ⊎_elim, Bool, true, false, cond, List, [], ◌∷◌, ◌++◌, length, drop, slice_index, ℤ, pos, neg_ℤ, ◌+ℤ◌, ◌-ℤ◌, ◌*ℤ◌, unsigned_abs}
use Rattle.std.proofs.Math.Nat.{one-le-pow, eq_of_mul-eq-mul_right}
use Rattle.std.proofs.lemmas.Bool.{cases_Bool}
use Rattle.std.proofs.lemmas.Bool.Decides.{nat_tests}
use Rattle.std.proofs.lemmas.Int.{ints}
use Rattle.std.proofs.lemmas.Int.Digits.{digits_value-lt}
use Rattle.std.proofs.lemmas.List.{length-append}
use Rattle.std.specs.Str.Parse.{AllDigits, digits_value, signed_digits_value, starts_with_minus, without_leading_sign}
use Rattle.city_json.specs.Bytes.{minus}
use Rattle.city_json.specs.Number.{IsNumber, IsWhole}
use Rattle.city_grid.specs.Decimal.{IsUnits, IsPlaced, power, places, decimal_bound, unit_places, signed}
use Rattle.city_grid.proofs.decimals.DigitValues.{all_digits-append}
use Rattle.city_grid.proofs.decimals.Equations.{abs_signed, signed_product, sign_is, size_is, placed_left, scaled_left, placed_right, scaled_right}

first_digit : (w : List ℕ) (rest : List ℕ) → IsWhole w → 48 ≤ slice_index (w ++ rest) 0
first_digit [] rest whole = absurd whole
first_digit (d ∷ ds) rest (inl zero) = omega (arith, zero.0)
first_digit (d ∷ ds) rest (inr more) = omega (arith, more.0)

-- digits have no sign in front
no_sign : (ds : List ℕ) → 48 ≤ slice_index ds 0 → (starts_with_minus ds ≡ false) × (without_leading_sign ds ≡ ds)
no_sign ds digit = (grind (arith, nat_tests), grind (arith, nat_tests))

-- the number that a sign and digits write
value_left : (x : List ℕ) → starts_with_minus x ≡ true
    → signed_digits_value 10 x ≡ neg_ℤ (pos (digits_value 10 (without_leading_sign x)))
value_left x minus_first = ap (λ b. signed b (digits_value 10 (without_leading_sign x))) minus_first

value_right : (x : List ℕ) → starts_with_minus x ≡ false
    → signed_digits_value 10 x ≡ pos (digits_value 10 (without_leading_sign x))
value_right x other_first = ap (λ b. signed b (digits_value 10 (without_leading_sign x))) other_first

pub mantissa_is : (m w f : List ℕ) (negative : Bool) → m ≡ cond negative (minus ∷ []) [] → IsWhole w
    → signed_digits_value 10 (m ++ (w ++ f)) ≡ signed negative (digits_value 10 (w ++ f))
mantissa_is m w f true sign whole = rw sign refl
mantissa_is m w f false sign whole =
    let bare = no_sign (w ++ f) (first_digit w f whole) in
    ap (λ text. signed_digits_value 10 (text ++ (w ++ f))) sign ∙ value_right (w ++ f) bare.0
    ∙ ap (λ ds. pos (digits_value 10 ds)) bare.1

apart_left : (e : ℤ) (move after a b : ℕ) → e ≡ neg_ℤ (pos move) → b + move + after ≡ 24 + a
    → pos b ≡ ((e -ℤ pos after) +ℤ pos 24) +ℤ pos a
apart_left e move after a b is sum = omega (arith, ints)

apart_right : (e : ℤ) (move after a b : ℕ) → e ≡ pos move → b + after ≡ move + 24 + a
    → pos b ≡ ((e -ℤ pos after) +ℤ pos 24) +ℤ pos a
apart_right e move after a b is sum = omega (arith, ints)

sum_left : (e : ℤ) (move after a b : ℕ) → e ≡ neg_ℤ (pos move) → pos b ≡ ((e -ℤ pos after) +ℤ pos 24) +ℤ pos a
    → b + move + after ≡ 24 + a
sum_left e move after a b is apart = omega (arith, ints)

sum_right : (e : ℤ) (move after a b : ℕ) → e ≡ pos move → pos b ≡ ((e -ℤ pos after) +ℤ pos 24) +ℤ pos a
    → b + after ≡ move + 24 + a
sum_right e move after a b is apart = omega (arith, ints)

-- what the code finds of a number: its sign, and the place of its point among all digits
pub record IsFound (text : List ℕ) (n : IsNumber text) (negative : Bool) (place : ℕ) : Type 0 where
  pub sign : n.minus_sign ≡ cond negative (minus ∷ []) []
  pub left : starts_with_minus (drop 1 n.exponent) ≡ true
      → place ≡ (length n.whole + 24) - digits_value 10 (without_leading_sign (drop 1 n.exponent))
  pub right : starts_with_minus (drop 1 n.exponent) ≡ false
      → place ≡ min (length n.whole + 24 + digits_value 10 (without_leading_sign (drop 1 n.exponent))) (2 ^ 128 - 1)
  pub room : length n.whole + length (drop 1 n.fraction) + 36 ≤ 2 ^ 128 - 1
  pub digits : AllDigits 10 (n.whole ++ places n)

-- n units where the digits write its size with the point at its place
pub scaled_from : (text : List ℕ) (n : IsNumber text) (negative : Bool) (place size : ℕ) → IsFound text n negative place
    → size < decimal_bound → IsPlaced (n.whole ++ places n) place size → (a : ℕ) × (b : ℕ)
    × (pos b ≡ (power n +ℤ pos unit_places) +ℤ pos a) × (size * 10 ^ a ≡ digits_value 10 (n.whole ++ places n) * 10 ^ b)
scaled_from text n negative place size found small placed =
    let x = drop 1 n.exponent in
    let all = n.whole ++ places n in
    let move = digits_value 10 (without_leading_sign x) in
    let after = length (places n) in
    let sum = length-append n.whole (places n) in
    let short = digits_value-lt 10 all found.digits in
    ⊎_elim
    (λ minus_first.
    let s = scaled_left (length n.whole) after (length all) (digits_value 10 all) move size sum short place
    (found.left minus_first) placed in
    (s.0, s.1, apart_left (signed_digits_value 10 x) move after s.0 s.1 (value_left x minus_first) s.2, s.3))
    (λ other_first.
    let s = scaled_right (length n.whole) after (length all) (digits_value 10 all) move size sum short (2 ^ 128 - 1)
    (omega (arith, found.room)) small place (found.right other_first) placed in
    (s.0, s.1, apart_right (signed_digits_value 10 x) move after s.0 s.1 (value_right x other_first) s.2, s.3))
    (cases_Bool (starts_with_minus x))

pub placed_of : (text : List ℕ) (n : IsNumber text) (negative : Bool) (place size a b : ℕ)
    → IsFound text n negative place → size < decimal_bound → pos b ≡ (power n +ℤ pos unit_places) +ℤ pos a
    → size * 10 ^ a ≡ digits_value 10 (n.whole ++ places n) * 10 ^ b → IsPlaced (n.whole ++ places n) place size
placed_of text n negative place size a b found small apart equal =
    let x = drop 1 n.exponent in
    let all = n.whole ++ places n in
    let move = digits_value 10 (without_leading_sign x) in
    let after = length (places n) in
    let sum = length-append n.whole (places n) in
    let short = digits_value-lt 10 all found.digits in
    ⊎_elim
    (λ minus_first. placed_left (length n.whole) after (length all) (digits_value 10 all) move size sum short place a b
    (found.left minus_first) (sum_left (signed_digits_value 10 x) move after a b (value_left x minus_first) apart)
    equal)
    (λ other_first. placed_right (length n.whole) after (length all) (digits_value 10 all) move size sum short
    (2 ^ 128 - 1) (omega (arith, found.room)) small place a b (found.right other_first)
    (sum_right (signed_digits_value 10 x) move after a b (value_right x other_first) apart) equal)
    (cases_Bool (starts_with_minus x))

pub units_from : (text : List ℕ) (n : IsNumber text) (negative : Bool) (place size : ℕ) → IsFound text n negative place
    → size < decimal_bound → IsPlaced (n.whole ++ places n) place size → IsUnits text (signed negative size)
units_from text n negative place size found small placed =
    let s = scaled_from text n negative place size found small placed in
    let mass = digits_value 10 (n.whole ++ places n) in
    let is = mantissa_is n.minus_sign n.whole (places n) negative found.sign n.is_whole in
    record {
      parts = n;
      scaled = record {
        a = s.0;
        b = s.1;
        apart = s.2;
        equation = signed_product negative size (10 ^ s.0) ∙ ap (signed negative) s.3
            ∙ sym (signed_product negative mass (10 ^ s.1)) ∙ ap (λ m. m *ℤ pos (10 ^ s.1)) (sym is);
      };
      small = rw (abs_signed negative size) small;
    }

pub units_are : (text : List ℕ) (negative : Bool) (place : ℕ) (n : ℤ) (units : IsUnits text n)
    → IsFound text units.parts negative place → (n ≡ signed negative (unsigned_abs n))
    × IsPlaced (units.parts.whole ++ places units.parts) place (unsigned_abs n)
units_are text negative place n units found =
    let parts = units.parts in
    let mass = digits_value 10 (parts.whole ++ places parts) in
    let s = units.scaled in
    let is = mantissa_is parts.minus_sign parts.whole (places parts) negative found.sign parts.is_whole in
    let equal : n *ℤ pos (10 ^ s.a) ≡ signed negative mass *ℤ pos (10 ^ s.b) = s.equation
    ∙ ap (λ m. m *ℤ pos (10 ^ s.b)) is in (
      sign_is negative n mass (10 ^ s.a) (10 ^ s.b) (one-le-pow s.a 10 (omega arith)) equal,
      placed_of text parts negative place (unsigned_abs n) s.a s.b found units.small s.apart
          (size_is negative n mass (10 ^ s.a) (10 ^ s.b) equal),
    )

pub digits_are : (text : List ℕ) (n : IsNumber text) (whole after : List ℕ) → whole ≡ n.whole → after ≡ places n
    → whole ++ after ≡ n.whole ++ places n
digits_are text n whole after first second = ap (λ w. w ++ after) first ∙ ap (λ f. n.whole ++ f) second

pub found_by : (text : List ℕ) (n : IsNumber text) (negative : Bool) (place : ℕ) (whole fraction exponent : List ℕ)
    → n.minus_sign ≡ cond negative (minus ∷ []) [] → whole ≡ n.whole → fraction ≡ places n
    → exponent ≡ drop 1 n.exponent → AllDigits 10 whole → AllDigits 10 fraction
    → (starts_with_minus exponent ≡ true
    → place ≡ (length whole + 24) - digits_value 10 (without_leading_sign exponent))
    → (starts_with_minus exponent ≡ false
    → place ≡ min (length whole + 24 + digits_value 10 (without_leading_sign exponent)) (2 ^ 128 - 1))
    → length whole < 2 ^ 64 → length fraction < 2 ^ 64 → IsFound text n negative place
found_by text n negative place whole fraction exponent sign whole_is fraction_is exponent_is all more left right short
    shorter =
    record {
      sign = sign;
      left = subst (λ x. starts_with_minus x ≡ true
          → place ≡ (length n.whole + 24) - digits_value 10 (without_leading_sign x)) exponent_is
          (subst (λ w. starts_with_minus exponent ≡ true
          → place ≡ (length w + 24) - digits_value 10 (without_leading_sign exponent)) whole_is left);
      right = subst (λ x. starts_with_minus x ≡ false
          → place ≡ min (length n.whole + 24 + digits_value 10 (without_leading_sign x)) (2 ^ 128 - 1)) exponent_is
          (subst (λ w. starts_with_minus exponent ≡ false
          → place ≡ min (length w + 24 + digits_value 10 (without_leading_sign exponent)) (2 ^ 128 - 1)) whole_is
          right);
      room = omega (arith, ap length whole_is, ap length fraction_is);
      digits = subst (AllDigits 10) (digits_are text n whole fraction whole_is fraction_is)
          (all_digits-append whole fraction all more);
    }

-- a number has one count of units
pub only_is : (text : List ℕ) (negative : Bool) (place : ℕ) (n : ℤ) (units : IsUnits text n)
    → IsFound text units.parts negative place → (size : ℕ)
    → IsPlaced (units.parts.whole ++ places units.parts) place size → n ≡ signed negative size
only_is text negative place n units found size placed =
    let are = units_are text negative place n units found in
    let digits = units.parts.whole ++ places units.parts in
    are.0 ∙ ap (signed negative) (eq_of_mul-eq-mul_right (10 ^ length digits)
    (one-le-pow (length digits) 10 (omega arith)) (unsigned_abs n) size (are.1 ∙ sym placed))

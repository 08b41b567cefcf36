-- What decimal digits write, digit by digit.
use Rattle.std.proofs.Common.{◌≡◌, ℕ, ◌+◌, ◌*◌, ◌^◌, ◌<◌, ◌≤◌, ◌∙◌, sym, ap, refl, List, [], ◌∷◌, ◌++◌, length, get_or, take, drop, arith, zero, suc}
use Rattle.std.proofs.Math.Nat.{pow-suc, one-le-pow, pow-le-pow_right, mul-le-mul_left}
use Rattle.std.proofs.Math.Numerals.{add-one}
use Rattle.std.proofs.lemmas.Bool.Decides.{nat_tests}
use Rattle.std.proofs.lemmas.List.{take_more, take-append-drop}
use Rattle.std.proofs.lemmas.List.Elements.{All-nil, All-cons, All-tail}
use Rattle.std.proofs.lemmas.Str.Parse.{digit_at, digit_from_value}
use Rattle.std.specs.List.{All}
use Rattle.std.specs.Char.{digit_value}
use Rattle.std.specs.Int.{IsInRange}
use Rattle.std.specs.Str.Parse.{AllDigits, digits_value, digits_value_after}

-- a digit's byte is 48 and its value
pub digit_byte : (c : ℕ) → IsInRange 48 57 c → digit_value c + 48 ≡ c
digit_byte c h = grind (arith, nat_tests)

pub digit_below : (ds : List ℕ) (i : ℕ) → AllDigits 10 ds → i < length ds → digit_value (get_or ds i 0) < 10
digit_below ds i all below =
    let here = digit_at ds i all below in
    omega (arith, digit_byte (get_or ds i 0) here)

pub value_after-append : (n : ℕ) (xs ys : List ℕ)
    → digits_value_after 10 n (xs ++ ys) ≡ digits_value_after 10 (digits_value_after 10 n xs) ys
value_after-append n [] ys = refl
value_after-append n (x ∷ xs) ys = value_after-append (n * 10 + digit_value x) xs ys

pub value_after_more : (n : ℕ) (ds : List ℕ) (i : ℕ) → i < length ds
    → digits_value_after 10 n (take (i + 1) ds) ≡ digits_value_after 10 n (take i ds) * 10 + digit_value (get_or ds i 0)
value_after_more n ds i below = ap (digits_value_after 10 n) (take_more ds i 0 below)
    ∙ value_after-append n (take i ds) (get_or ds i 0 ∷ [])

shifted : (n v p d e : ℕ) → e ≡ (0 * 10 + v) * p + d → (n * 10 + v) * p + d ≡ n * (p * 10) + e
shifted n v p d e written = omega arith

-- the number in front is shifted by as many places as there are digits
pub value_after_is : (n : ℕ) (ds : List ℕ) → digits_value_after 10 n ds ≡ n * 10 ^ length ds + digits_value 10 ds
value_after_is n [] = omega arith
value_after_is n (d ∷ ds) =
    let written = value_after_is (0 * 10 + digit_value d) ds in
    value_after_is (n * 10 + digit_value d) ds
    ∙ shifted n (digit_value d) (10 ^ length ds) (digits_value 10 ds) _ written
    ∙ ap (λ q. n * q + digits_value 10 (d ∷ ds)) (sym (pow-suc 10 (length ds)))

pub value-append : (xs ys : List ℕ)
    → digits_value 10 (xs ++ ys) ≡ digits_value 10 xs * 10 ^ length ys + digits_value 10 ys
value-append xs ys = value_after-append 0 xs ys ∙ value_after_is (digits_value 10 xs) ys

pub value_after_grows : (n : ℕ) (ds : List ℕ) → n ≤ digits_value_after 10 n ds
value_after_grows n ds = omega (arith, value_after_is n ds, mul-le-mul_left n (one-le-pow (length ds) 10 (omega arith)))

pub value_after_part : (n : ℕ) (ds : List ℕ) (i : ℕ) → digits_value_after 10 n (take i ds) ≤ digits_value_after 10 n ds
value_after_part n ds i =
    let whole = sym (value_after-append n (take i ds) (drop i ds))
    ∙ ap (digits_value_after 10 n) (take-append-drop i ds) in
    omega (arith, whole, value_after_grows (digits_value_after 10 n (take i ds)) (drop i ds))

-- one zero more
pub raised_more : (n v shown : ℕ) → v ≡ n * 10 ^ shown → v * 10 ≡ n * 10 ^ (shown + 1)
raised_more n v shown is = rw add-one (omega (arith, ap (λ q. n * q) (pow-suc 10 shown)))

-- a multiple that is too large with one zero more stays so with others
pub too_large : (n v shown most bound : ℕ) → v ≡ n * 10 ^ shown → shown < most → bound ≤ v * 10 → n * 10 ^ most < bound
    → ⊥
too_large n v shown most bound is more large small =
    let powers : 10 ^ (shown + 1) ≤ 10 ^ most = pow-le-pow_right (omega arith) (omega arith) in
    omega (arith, raised_more n v shown is, mul-le-mul_left n powers)

-- digits write 0 where each of them is a zero, and only there
pub value_from_zeros : (ds : List ℕ) → All (λ d. d ≡ 48) ds → digits_value 10 ds ≡ 0
value_from_zeros [] zeros = refl
value_from_zeros (d ∷ ds) zeros =
    let here : digit_value d ≡ 0 = ap digit_value (zeros 0 d (omega arith)) in
    value_after_is (0 * 10 + digit_value d) ds
    ∙ omega (
      arith,
      ap (λ v. (0 * 10 + v) * 10 ^ length ds) here,
      value_from_zeros ds (All-tail (λ d. d ≡ 48) d ds zeros),
    )

pub zeros_from_value : (ds : List ℕ) → AllDigits 10 ds → digits_value 10 ds ≡ 0 → All (λ d. d ≡ 48) ds
zeros_from_value [] all nothing = All-nil (λ d. d ≡ 48)
zeros_from_value (d ∷ ds) all nothing =
    let sum = sym (value_after_is (0 * 10 + digit_value d) ds) ∙ nothing in
    let large : digit_value d ≤ digit_value d * 10 ^ length ds =
    omega (arith, mul-le-mul_left (digit_value d) (one-le-pow (length ds) 10 (omega arith))) in
    let zero : digit_value d ≡ 0 = omega arith in
    let here : d ≡ 48 = omega (arith, digit_byte d (digit_from_value d all.0)) in
    All-cons (λ d. d ≡ 48) d ds here (zeros_from_value ds all.1 (omega arith))

-- parts of digits, and digits joined, are digits
pub all_digits-append : (xs ys : List ℕ) → AllDigits 10 xs → AllDigits 10 ys → AllDigits 10 (xs ++ ys)
all_digits-append [] ys first second = second
all_digits-append (x ∷ xs) ys first second = (first.0, all_digits-append xs ys first.1 second)

pub all_digits-take : (n : ℕ) (xs : List ℕ) → AllDigits 10 xs → AllDigits 10 (take n xs)
all_digits-take zero xs all = tt
all_digits-take (suc n) [] all = tt
all_digits-take (suc n) (x ∷ xs) all = (all.0, all_digits-take n xs all.1)

pub all_digits-drop : (n : ℕ) (xs : List ℕ) → AllDigits 10 xs → AllDigits 10 (drop n xs)
all_digits-drop zero xs all = all
all_digits-drop (suc n) [] all = tt
all_digits-drop (suc n) (x ∷ xs) all = all_digits-drop n xs all.1

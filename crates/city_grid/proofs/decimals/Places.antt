-- Digits with the point at another place.
use Rattle.std.proofs.Common.{◌≡◌, ◌⊎◌, ℕ, ◌+◌, ◌-◌, ◌*◌, ◌^◌, ◌<◌, ◌≤◌, ◌∙◌, sym, ap, subst, List, [], ◌++◌, length, take, drop, min, arith, ⊎_elim, inl, inr, Option, Some, None, IfSome, IfNone}
use Rattle.std.proofs.Math.Nat.{one-le-pow, mul-le-mul_left, eq_of_mul-eq-mul_right}
use Rattle.std.proofs.lemmas.Nat.{pow-add, same_from_place}
use Rattle.std.proofs.lemmas.Int.Digits.{digits_value-lt}
use Rattle.std.proofs.lemmas.List.{append_assoc, append-nil, take-append-drop, take_rest, take_all, drop_all, length-append, length-take-le}
use Rattle.std.specs.List.{All}
use Rattle.std.specs.Option.{SomeIff}
use Rattle.std.specs.Str.Parse.{AllDigits, digits_value}
use Rattle.city_grid.specs.Decimal.{IsPlaced}
use Rattle.city_grid.proofs.decimals.DigitValues.{value-append, value_after-append, value_after_grows, value_from_zeros, zeros_from_value, all_digits-append, all_digits-drop}

-- `placed_is` on numbers: a in front, b after, p and q the powers of the lengths, z that of the filling
placed_numbers : (n a b p q z : ℕ) → 0 < q → b < p → (z ≡ 1) ⊎ ((b ≡ 0) × (p ≡ 1)) → n * (q * p) ≡ (a * p + b) * (q * z)
    → (b ≡ 0) × (n ≡ a * z)
placed_numbers n a b p q z some short (inl one) placed =
    let shorter : n * p ≡ (a * p + b) * z = eq_of_mul-eq-mul_right q some (n * p) ((a * p + b) * z) (omega arith) in
    let whole : n * p + 0 ≡ a * p + b = omega (arith, ap (λ x. (a * p + b) * x) one) in
    let same = same_from_place n 0 a b p (omega arith) short whole in
    (omega (arith, same.1), omega (arith, same.0, ap (λ x. a * x) one))
placed_numbers n a b p q z some short (inr none) placed =
    let shorter : n * p ≡ (a * p + b) * z = eq_of_mul-eq-mul_right q some (n * p) ((a * p + b) * z) (omega arith) in
    (none.0, omega (arith, ap (λ x. n * x) none.1, ap (λ x. (a * x + b) * z) none.1, ap (λ x. x * z) none.0))

-- the digits fall into those in front of the point and those after it, of which there are none where filling fill up to
-- the point
pub record IsCut (digits front back : List ℕ) (place filling : ℕ) : Type 0 where
  pub split : digits ≡ front ++ back
  pub reached : length front + filling ≡ place
  pub filled : (filling ≡ 0) ⊎ (back ≡ [])
  pub all : AllDigits 10 back

-- what a cut says of the powers and values
cut_power : (digits front back : List ℕ) (place filling : ℕ) → IsCut digits front back place filling
    → 10 ^ length digits ≡ 10 ^ length front * 10 ^ length back
cut_power digits front back place filling cut = ap (λ ds. 10 ^ length ds) cut.split
    ∙ ap (λ l. 10 ^ l) (length-append front back) ∙ pow-add 10 (length front) (length back)

cut_place : (digits front back : List ℕ) (place filling : ℕ) → IsCut digits front back place filling
    → 10 ^ place ≡ 10 ^ length front * 10 ^ filling
cut_place digits front back place filling cut = ap (λ l. 10 ^ l) (sym cut.reached) ∙ pow-add 10 (length front) filling

cut_value : (digits front back : List ℕ) (place filling : ℕ) → IsCut digits front back place filling
    → digits_value 10 digits ≡ digits_value 10 front * 10 ^ length back + digits_value 10 back
cut_value digits front back place filling cut = ap (digits_value 10) cut.split ∙ value-append front back

-- both sides of `IsPlaced`, in the parts of the cut
cut_sides : (digits front back : List ℕ) (place filling : ℕ) → IsCut digits front back place filling → (n : ℕ)
    → (n * 10 ^ length digits ≡ n * (10 ^ length front * 10 ^ length back))
    × (digits_value 10 digits * 10 ^ place ≡ (digits_value 10 front * 10 ^ length back + digits_value 10 back)
    * (10 ^ length front * 10 ^ filling))
cut_sides digits front back place filling cut n = (
  ap (λ x. n * x) (cut_power digits front back place filling cut),
  ap (λ x. x * 10 ^ place) (cut_value digits front back place filling cut)
      ∙ ap (λ x. (digits_value 10 front * 10 ^ length back + digits_value 10 back) * x)
      (cut_place digits front back place filling cut),
)

filled_numbers : (back : List ℕ) (filling : ℕ) → (filling ≡ 0) ⊎ (back ≡ []) → (10 ^ filling ≡ 1)
    ⊎ ((digits_value 10 back ≡ 0) × (10 ^ length back ≡ 1))
filled_numbers back filling (inl none) = inl (ap (λ x. 10 ^ x) none)
filled_numbers back filling (inr none) = inr (ap (digits_value 10) none, ap (λ ds. 10 ^ length ds) none)

-- n is then the number in front, with the filling, and nothing stands after the point
pub placed_is : (digits front back : List ℕ) (place filling n : ℕ) → IsCut digits front back place filling
    → IsPlaced digits place n → (digits_value 10 back ≡ 0) × (n ≡ digits_value 10 front * 10 ^ filling)
placed_is digits front back place filling n cut placed =
    let sides = cut_sides digits front back place filling cut n in
    placed_numbers n (digits_value 10 front) (digits_value 10 back) (10 ^ length back) (10 ^ length front)
    (10 ^ filling) (one-le-pow (length front) 10 (omega arith)) (digits_value-lt 10 back cut.all)
    (filled_numbers back filling cut.filled) (sym sides.0 ∙ placed ∙ sides.1)

pub placed_from : (digits front back : List ℕ) (place filling n : ℕ) → IsCut digits front back place filling
    → digits_value 10 back ≡ 0 → n ≡ digits_value 10 front * 10 ^ filling → IsPlaced digits place n
placed_from digits front back place filling n cut nothing is =
    let sides = cut_sides digits front back place filling cut n in
    sides.0 ∙ from_numbers n (digits_value 10 front) (digits_value 10 back) (10 ^ length back) (10 ^ length front)
    (10 ^ filling) nothing is ∙ sym sides.1
  where
    from_numbers : (n a b p q z : ℕ) → b ≡ 0 → n ≡ a * z → n * (q * p) ≡ (a * p + b) * (q * z)
    from_numbers n a b p q z none is = rw (none, is) (omega arith)

-- digits in two parts, of which the second begins to be taken only where the first is whole
pub cut_of_two : (whole places : List ℕ) (kept more place : ℕ) → AllDigits 10 whole → AllDigits 10 places
    → kept ≤ length whole → more ≤ length places → kept + more ≤ place → (kept ≡ length whole) ⊎ (more ≡ 0)
    → (kept + more ≡ place) ⊎ ((kept ≡ length whole) × (more ≡ length places))
    → IsCut (whole ++ places) (take kept whole ++ take more places) (drop kept whole ++ drop more places) place
    (place - kept - more)
cut_of_two whole places kept more place digits more_digits within within_places below first filled =
    record {
      split = split_of_two whole places kept more first;
      reached = omega (
        arith,
        length-append (take kept whole) (take more places),
        length-take-le kept whole within,
        length-take-le more places within_places,
      );
      filled = ⊎_elim (λ up_to. inl (omega arith))
          (λ ends. inr (nothing_left whole places kept more ends.0 ends.1)) filled;
      all = all_digits-append (drop kept whole) (drop more places) (all_digits-drop kept whole digits)
          (all_digits-drop more places more_digits);
    }
  where
    split_of_two : (whole places : List ℕ) (kept more : ℕ) → (kept ≡ length whole) ⊎ (more ≡ 0)
        → whole ++ places ≡ (take kept whole ++ take more places) ++ (drop kept whole ++ drop more places)
    split_of_two whole places kept more (inl all) =
        let front : take kept whole ≡ whole = take_all kept whole (omega arith) in
        let back : drop kept whole ≡ [] = drop_all kept whole (omega arith) in
        rw (front, back, append_assoc whole (take more places) (drop more places), take-append-drop more places)
    split_of_two whole places kept more (inr none) =
        let front : take more places ≡ [] = ap (λ n. take n places) none in
        let back : drop more places ≡ places = ap (λ n. drop n places) none in
        rw (
          front,
          back,
          append-nil (take kept whole),
          ← append_assoc (take kept whole) (drop kept whole) places,
          take-append-drop kept whole,
        )

    nothing_left : (whole places : List ℕ) (kept more : ℕ) → kept ≡ length whole → more ≡ length places
        → drop kept whole ++ drop more places ≡ []
    nothing_left whole places kept more all all_places =
        rw (drop_all kept whole (omega arith), drop_all more places (omega arith))

-- the digits in front of the place, in each part, and those after it
pub cut_at : (whole places : List ℕ) (place kept more : ℕ) → AllDigits 10 whole → AllDigits 10 places
    → kept ≡ min place (length whole) → more ≡ min (place - kept) (length places)
    → IsCut (whole ++ places) (take kept whole ++ take more places) (drop kept whole ++ drop more places) place
    (place - kept - more)
cut_at whole places place kept more digits more_digits first second =
    cut_of_two whole places kept more place digits more_digits (omega arith) (omega arith) (omega arith) (grind arith)
    (grind arith)

pub parts_are_zeros : (xs ys : List ℕ) → AllDigits 10 xs → AllDigits 10 ys → digits_value 10 (xs ++ ys) ≡ 0
    → All (λ d. d ≡ 48) xs × All (λ d. d ≡ 48) ys
parts_are_zeros xs ys digits more nothing =
    let sum = sym (value-append xs ys) ∙ nothing in
    let large : digits_value 10 xs ≤ digits_value 10 xs * 10 ^ length ys =
    omega (arith, mul-le-mul_left (digits_value 10 xs) (one-le-pow (length ys) 10 (omega arith))) in
    (zeros_from_value xs digits (omega arith), zeros_from_value ys more (omega arith))

pub value_of_zeros : (xs ys : List ℕ) → All (λ d. d ≡ 48) xs → All (λ d. d ≡ 48) ys → digits_value 10 (xs ++ ys) ≡ 0
value_of_zeros xs ys first second =
    omega (
      arith,
      value-append xs ys,
      ap (λ v. v * 10 ^ length ys) (value_from_zeros xs first),
      value_from_zeros ys second,
    )

-- zeros from a place on, as the code cuts them out of a slice
pub cut_zeros : (ds : List ℕ) (i : ℕ) → All (λ d. d ≡ 48) (drop i ds)
    → All (λ d. d ≡ 48) (take (length ds - i) (drop i ds))
cut_zeros ds i zeros = subst (All (λ d. d ≡ 48)) (sym (take_rest ds i)) zeros

pub zeros_cut : (ds : List ℕ) (i : ℕ) → All (λ d. d ≡ 48) (take (length ds - i) (drop i ds))
    → All (λ d. d ≡ 48) (drop i ds)
zeros_cut ds i zeros = subst (All (λ d. d ≡ 48)) (take_rest ds i) zeros

-- a value that is there exactly where it is small, and is the only one that P allows
pub if_some_from : (r : Option ℕ) (v bound : ℕ) (P : ℕ → Type 0) → SomeIff r (v < bound) v → P v
    → IfSome r (λ n. (n < bound) × P n)
if_some_from None v bound P given holds = tt
if_some_from (Some n) v bound P given holds = (omega arith, subst P (sym given.1) holds)

pub if_none_from : (r : Option ℕ) (v bound : ℕ) (P : ℕ → Type 0) → SomeIff r (v < bound) v → ((n : ℕ) → P n → n ≡ v)
    → IfNone r ((n : ℕ) → n < bound → ¬ P n)
if_none_from None v bound P given only = λ n small holds. given (subst (λ m. m < bound) (only n holds) small)
if_none_from (Some n) v bound P given only = tt

-- digits in front write no more than all of them with zeros
pub front_is_less : (front more : List ℕ) (filling : ℕ)
    → digits_value 10 front ≤ digits_value 10 (front ++ more) * 10 ^ filling
front_is_less front more filling =
    omega (
      arith,
      value_after_grows (digits_value 10 front) more,
      value_after-append 0 front more,
      mul-le-mul_left (digits_value 10 (front ++ more)) (one-le-pow filling 10 (omega arith)),
    )

pub all_is_less : (front more : List ℕ) (filling : ℕ)
    → digits_value 10 (front ++ more) ≤ digits_value 10 (front ++ more) * 10 ^ filling
all_is_less front more filling =
    omega (arith, mul-le-mul_left (digits_value 10 (front ++ more)) (one-le-pow filling 10 (omega arith)))

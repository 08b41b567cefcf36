-- The parts of a number are where its bytes say: digits end where none follows.
use Rattle.std.proofs.Common.{◌≡◌, ◌∙◌, ◌⊎◌, ℕ, ◌≤◌, inl, inr, List, [], ◌∷◌, ◌++◌, length, drop, slice_index, ◌==◌, sym, ap, refl, subst, arith, length-append, if◌then◌else◌}
use Rattle.std.proofs.lemmas.Bool.Decides.{nat_tests}
use Rattle.std.proofs.lemmas.List.{append-nil}
use Rattle.std.proofs.lemmas.Str.Parse.{digit_from_value}
use Rattle.std.specs.Char.{digit_value}
use Rattle.std.specs.Str.Parse.{AllDigits, without_leading_sign}
use Rattle.city_json.specs.Bytes.{point, small_e, large_e}
use Rattle.city_json.specs.Number.{IsNumber, IsWhole, IsFraction, IsExponent, IsSign}
use Rattle.city_json.specs.NumberAt.{past_minus, past_digits, split_before}
use Rattle.city_json.proofs.NumberLaws.{digits-split, digits-passed, minus-passed, digits-before_exponent, digits-before_fraction, split-front}

pub rest_of_digits_is_short : (b rest : List ℕ) → rest ≡ past_digits b → length rest ≤ length b
rest_of_digits_is_short b rest is =
    let (front, split, digits) = digits-split b in
    omega (arith, ap length is, ap length split, length-append front (past_digits b))

-- Each part is digits.

pub digits_of_whole : (w : List ℕ) → IsWhole w → AllDigits 10 w
digits_of_whole [] whole = absurd whole
digits_of_whole (d ∷ ds) (inl zero) = (omega (arith, ap digit_value zero.0), subst (AllDigits 10) (sym zero.1) tt)
digits_of_whole (d ∷ ds) (inr more) = (grind (arith, nat_tests), more.2)

pub digits_of_fraction : (f : List ℕ) → IsFraction f → AllDigits 10 (drop 1 f)
digits_of_fraction [] fraction = tt
digits_of_fraction (mark ∷ ds) fraction = fraction.1.1

digits_of_power : (sign digits : List ℕ) → IsSign sign → AllDigits 10 digits
    → AllDigits 10 (without_leading_sign (sign ++ digits))
digits_of_power sign [] (inl none) all = rw none tt
digits_of_power sign (d ∷ ds) (inl none) all =
    let digit = digit_from_value d all.0 in
    let bare : without_leading_sign (d ∷ ds) ≡ d ∷ ds = grind (arith, nat_tests) in
    rw none (subst (AllDigits 10) (sym bare) all)
digits_of_power sign digits (inr (inl one)) all = rw one all
digits_of_power sign digits (inr (inr one)) all = rw one all

pub digits_of_exponent : (x : List ℕ) → IsExponent x → AllDigits 10 (without_leading_sign (drop 1 x))
digits_of_exponent [] exponent = tt
digits_of_exponent (mark ∷ power) exponent =
    let spelled = exponent.1 in
    subst (λ text. AllDigits 10 (without_leading_sign text)) (sym spelled.2)
    (digits_of_power spelled.0 spelled.1 spelled.3 spelled.4.1)

-- Each part is found where the one before it ends.

split_at_rest : (ds rest : List ℕ) → AllDigits 10 ds → past_digits rest ≡ rest
    → split_before (ds ++ rest) (past_digits (ds ++ rest)) ≡ (ds, rest)
split_at_rest ds rest all ends = rw (digits-passed ds rest all ends, split-front (ds ++ rest) ds rest refl)

past_point_is : (f x : List ℕ) → IsFraction f → IsExponent x
    → (if slice_index (f ++ x) 0 == point then drop 1 (f ++ x) else f ++ x) ≡ drop 1 f ++ x
past_point_is [] [] fraction exponent = refl
past_point_is [] (mark ∷ power) fraction exponent =
    let mark_is : (mark ≡ small_e) ⊎ (mark ≡ large_e) = exponent.0 in
    elim mark_is [ inl small ↦ rw small refl | inr large ↦ rw large refl ]
past_point_is (mark ∷ ds) x fraction exponent = rw fraction.0 refl

module _ (text : List ℕ) (n : IsNumber text) where
  no_digits : past_digits n.exponent ≡ n.exponent
  no_digits = subst (λ x. past_digits x ≡ x) (append-nil n.exponent)
      (digits-before_exponent n.exponent [] n.is_exponent refl)

  pub whole_found : (unsigned : List ℕ) (found : List ℕ × List ℕ) → unsigned ≡ past_minus text
      → found ≡ split_before unsigned (past_digits unsigned) → found ≡ (n.whole, n.fraction ++ n.exponent)
  whole_found unsigned found is split =
      let others = n.fraction ++ n.exponent in
      let unsigned_is : unsigned ≡ n.whole ++ others = is ∙ ap past_minus n.spelled
      ∙ minus-passed n.minus_sign n.whole others n.is_minus n.is_whole in
      let ends = digits-before_fraction n.fraction n.exponent n.is_fraction no_digits in
      split ∙ ap (λ b. split_before b (past_digits b)) unsigned_is
      ∙ split_at_rest n.whole others (digits_of_whole n.whole n.is_whole) ends

  pub fraction_found : (rest after : List ℕ) (found : List ℕ × List ℕ) → rest ≡ n.fraction ++ n.exponent
      → after ≡ (if slice_index rest 0 == point then drop 1 rest else rest)
      → found ≡ split_before after (past_digits after) → found ≡ (drop 1 n.fraction, n.exponent)
  fraction_found rest after found rest_is is split =
      let after_is : after ≡ drop 1 n.fraction ++ n.exponent = is
      ∙ ap (λ b. if slice_index b 0 == point then drop 1 b else b) rest_is
      ∙ past_point_is n.fraction n.exponent n.is_fraction n.is_exponent in
      split ∙ ap (λ b. split_before b (past_digits b)) after_is
      ∙ split_at_rest (drop 1 n.fraction) n.exponent (digits_of_fraction n.fraction n.is_fraction) no_digits

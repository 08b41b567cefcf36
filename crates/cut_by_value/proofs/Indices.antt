-- Plain decimal texts of numbers.
use Rattle.std.proofs.Common.{◌≡◌, ◌<◌, ◌≤◌, ◌^◌, ◌++◌, inl, inr, ℕ, List, [], ◌∷◌, length, get_or, take, sym, refl, ap, subst, ◌∙◌, arith}
use Rattle.std.proofs.lemmas.Fmt.{decimal_is_IsNumeral, decimal-digits_value}
use Rattle.std.proofs.lemmas.Str.Parse.{digit_at, digits_value-take-le, IsNumeralModel}
use Rattle.std.specs.Char.{digit_value}
use Rattle.std.specs.Fmt.{decimal}
use Rattle.std.specs.Str.Parse.{AllDigits, digits_value}
use Rattle.city_json.specs.Number.{IsNumber, IsMinus, IsWhole, IsFraction, IsExponent}
use Rattle.city_families.specs.Leaves.{IsIndex}

pub no_index_by_digit : (count : ℕ) (text : List ℕ) (i : ℕ) → count < 2 ^ 64 → i < length text
    → ((48 ≤ get_or text i 0) × (get_or text i 0 ≤ 57) → ⊥) → IsIndex count text → ⊥
no_index_by_digit count text i small within isnt index =
    let all : AllDigits 10 text = subst (AllDigits 10) (sym index.2)
    (decimal_is_IsNumeral index.0 (omega (arith, index.1))).0.1 in
    isnt (digit_at text i all within)

pub no_index_by_size : (count value : ℕ) (text : List ℕ) (i : ℕ) → count < 2 ^ 64
    → value ≡ digits_value 10 (take i text) → count ≤ value → IsIndex count text → ⊥
no_index_by_size count value text i small is large index =
    let whole : digits_value 10 text ≡ index.0 =
    ap (digits_value 10) index.2 ∙ (decimal_is_IsNumeral index.0 (omega (arith, index.1))).1 in
    let part = digits_value-take-le 10 text i (omega arith) in
    omega (arith, whole, part, index.1, is, large)

-- a fraction and an exponent begin with no digit
nothing_follows : (f e : List ℕ) → IsFraction f → IsExponent e → AllDigits 10 (f ++ e) → (f ≡ []) × (e ≡ [])
nothing_follows [] [] fraction exponent all = (refl, refl)
nothing_follows [] (mark ∷ power) fraction (inl small, power_is) all =
    absurd (omega (arith, subst (λ n. digit_value n < 10) small all.0))
nothing_follows [] (mark ∷ power) fraction (inr large, power_is) all =
    absurd (omega (arith, subst (λ n. digit_value n < 10) large all.0))
nothing_follows (mark ∷ digits) e fraction exponent all =
    absurd (omega (arith, subst (λ n. digit_value n < 10) fraction.0 all.0))

leads : (m w f e : List ℕ) → IsMinus m → IsWhole w → IsFraction f → IsExponent e → AllDigits 10 (m ++ (w ++ (f ++ e)))
    → (0 < length (m ++ (w ++ (f ++ e)))) × (get_or (m ++ (w ++ (f ++ e))) 0 0 ≡ 48 → length (m ++ (w ++ (f ++ e))) ≡ 1)
leads (c ∷ m) w f e (inl sign) whole fraction exponent all = absurd (omega (arith, ap length sign))
leads (c ∷ m) w f e (inr sign) whole fraction exponent all =
    absurd (omega (arith, subst (λ n. digit_value n < 10) (ap (λ l. get_or l 0 0) sign) all.0))
leads [] [] f e minus whole fraction exponent all = absurd whole
leads [] (d ∷ ds) f e minus (inl zero_alone) fraction exponent all =
    let rest : AllDigits 10 (f ++ e) = subst (λ l. AllDigits 10 (l ++ (f ++ e))) zero_alone.1 all.1 in
    let nothing = nothing_follows f e fraction exponent rest in
    let empty : ds ++ (f ++ e) ≡ [] = ap (λ l. l ++ (f ++ e)) zero_alone.1 ∙ (ap (λ l. l ++ e) nothing.0 ∙ nothing.1) in
    (omega arith, λ _. ap (λ l. length (d ∷ l)) empty)
leads [] (d ∷ ds) f e minus (inr digits) fraction exponent all =
    (omega arith, λ first. absurd (omega (arith, digits.0, first)))

pub plain_of_number : (text : List ℕ) → IsNumber text → AllDigits 10 text → digits_value 10 text < 2 ^ 64
    → text ≡ decimal (digits_value 10 text)
plain_of_number text n all small =
    let both = leads n.minus_sign n.whole n.fraction n.exponent n.is_minus n.is_whole n.is_fraction n.is_exponent
    (subst (AllDigits 10) n.spelled all) in
    let there : (0 < length text) × (get_or text 0 0 ≡ 48 → length text ≡ 1) =
    subst (λ l. (0 < length l) × (get_or l 0 0 ≡ 48 → length l ≡ 1)) (sym n.spelled) both in
    sym (decimal-digits_value own text all there.0 there.1 small)
  where
    own : IsNumeralModel (AllDigits 10) (digits_value 10)
    own = record { to = λ ds a. a; from = λ ds a. a; same = λ ds a. refl }

pub some_text : (text : List ℕ) → IsNumber text → 0 < length text
some_text text n = subst (λ l. 0 < length l) (sym n.spelled)
    (some n.minus_sign n.whole n.fraction n.exponent n.is_whole)
  where
    some : (m w f e : List ℕ) → IsWhole w → 0 < length (m ++ (w ++ (f ++ e)))
    some (c ∷ m) w f e whole = omega arith
    some [] [] f e whole = absurd whole
    some [] (d ∷ ds) f e whole = omega arith

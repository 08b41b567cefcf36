-- Integers without a fraction and an exponent, read up to a size.
use Rattle.std.proofs.Common.{◌≡◌, ℕ, ◌+◌, ◌*◌, ◌<◌, ◌≤◌, ◌∙◌, sym, ap, refl, subst, inl, inr, ⊎_elim, Bool, cond, List, [], ◌∷◌, ◌++◌, drop, length, ℤ, unsigned_abs, arith}
use Rattle.std.proofs.lemmas.Bool.{cases_lt}
use Rattle.std.proofs.lemmas.List.{append-nil, length-append}
use Rattle.std.specs.Str.Parse.{digits_value, signed_digits_value}
use Rattle.city_json.specs.Bytes.{minus}
use Rattle.city_json.specs.Number.{IsNumber, IsFraction, IsExponent}
use Rattle.byte_streams.specs.Limits.{max_steps}
use Rattle.city_grid.specs.Decimal.{signed}
use Rattle.city_grid.specs.Vertex.{IsInteger, IsCapped, IsSameOrLarge}
use Rattle.city_grid.proofs.decimals.Equations.{abs_signed}
use Rattle.city_grid.proofs.decimals.Units.{mantissa_is}

pub capped_more : (value more size next digit : ℕ) → IsCapped value size → (size ≤ max_steps → next ≡ size * 10 + digit)
    → (max_steps < size → next ≡ size) → more ≡ value * 10 + digit → IsCapped more next
capped_more value more size next digit (inl same) small large is =
    ⊎_elim (λ past. inr (omega (arith, large past), omega arith)) (λ within. inl (omega (arith, small within)))
    (cases_lt max_steps size)
capped_more value more size next digit (inr both) small large is =
    inr (omega (arith, large both.0), omega (arith, both.1))

-- a part without digits is none
pub no_fraction : (f : List ℕ) → IsFraction f → drop 1 f ≡ [] → f ≡ []
no_fraction [] fraction none = refl
no_fraction (mark ∷ ds) fraction none = absurd (omega (arith, fraction.1.0, ap length none))

pub no_exponent : (x : List ℕ) → IsExponent x → drop 1 x ≡ [] → x ≡ []
no_exponent [] exponent none = refl
no_exponent (mark ∷ power) exponent none =
    let (sign, digits, split, is_sign, are_digits) = exponent.1 in
    absurd (omega (arith, are_digits.0, ap length none, ap length split, length-append sign digits))

-- a number with neither a fraction nor an exponent is an integer
pub integer_from : (text : List ℕ) (n : IsNumber text) (negative : Bool) (whole fraction exponent : List ℕ)
    → n.minus_sign ≡ cond negative (minus ∷ []) [] → whole ≡ n.whole → fraction ≡ drop 1 n.fraction
    → exponent ≡ drop 1 n.exponent → length fraction ≡ 0 → length exponent ≡ 0
    → IsInteger text (signed negative (digits_value 10 whole))
integer_from text n negative whole fraction exponent sign whole_is fraction_is exponent_is none no_more =
    let no_f = no_fraction n.fraction n.is_fraction (sym fraction_is ∙ nil_from_length fraction none) in
    let no_x = no_exponent n.exponent n.is_exponent (sym exponent_is ∙ nil_from_length exponent no_more) in
    let rest : n.fraction ++ n.exponent ≡ [] = ap (λ f. f ++ n.exponent) no_f ∙ no_x in
    let spelled : text ≡ n.minus_sign ++ (n.whole ++ []) = n.spelled ∙ ap (λ r. n.minus_sign ++ (n.whole ++ r)) rest in
    let value : signed_digits_value 10 text ≡ signed negative (digits_value 10 whole) =
    ap (signed_digits_value 10) spelled ∙ mantissa_is n.minus_sign n.whole [] negative sign n.is_whole
    ∙ ap (λ ds. signed negative (digits_value 10 ds)) (append-nil n.whole ∙ sym whole_is) in
    (n, no_f, no_x, sym value)
  where
    nil_from_length : (xs : List ℕ) → length xs ≡ 0 → xs ≡ []
    nil_from_length [] none = refl
    nil_from_length (x ∷ xs) none = absurd (omega (arith, none))

pub same_or_large : (negative : Bool) (value size : ℕ) → IsCapped value size
    → IsSameOrLarge (signed negative value) (signed negative size)
same_or_large negative value size (inl same) = inl (ap (signed negative) same)
same_or_large negative value size (inr both) =
    inr (omega (arith, abs_signed negative size, both.0), omega (arith, abs_signed negative value, both.1))

-- what is in range was read as it is
pub same_in_range : (z read : ℤ) → IsSameOrLarge z read → unsigned_abs read ≤ max_steps → read ≡ z
same_in_range z read (inl same) small = same
same_in_range z read (inr both) small = absurd (omega (arith, both.0))

pub range_of_read : (z read : ℤ) → IsSameOrLarge z read → unsigned_abs z ≤ max_steps → unsigned_abs read ≤ max_steps
range_of_read z read (inl same) small = subst (λ n. unsigned_abs n ≤ max_steps) (sym same) small
range_of_read z read (inr both) small = absurd (omega (arith, both.1))

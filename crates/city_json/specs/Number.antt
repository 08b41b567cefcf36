-- Numbers (RFC 8259, section 6): a minus sign or none, a whole part, a fraction or none, an exponent or none.
use Rattle.std.specs.Prelude.{◌≡◌, ◌⊎◌, ◌++◌, ℕ, List, [], ◌∷◌, ◌≤◌, ◌<◌, length}
use Rattle.std.specs.Str.Parse.{AllDigits}
use Rattle.city_json.specs.Bytes.{digit_zero, digit_one, digit_nine, minus, plus, point, small_e, large_e}

-- one or more digits
abbrev pub AreDigits : List ℕ → Type 0
AreDigits digits = (0 < length digits) × AllDigits 10 digits

abbrev pub IsMinus : List ℕ → Type 0
IsMinus text = (text ≡ []) ⊎ (text ≡ minus ∷ [])

-- `0` alone, or digits of which the first is not `0`
abbrev pub IsWhole : List ℕ → Type 0
IsWhole [] = ⊥
IsWhole (first ∷ digits) = ((first ≡ digit_zero) × (digits ≡ []))
    ⊎ ((digit_one ≤ first) × (first ≤ digit_nine) × AllDigits 10 digits)

abbrev pub IsFraction : List ℕ → Type 0
IsFraction [] = Unit {0}
IsFraction (mark ∷ digits) = (mark ≡ point) × AreDigits digits

abbrev pub IsSign : List ℕ → Type 0
IsSign sign = (sign ≡ []) ⊎ (sign ≡ minus ∷ []) ⊎ (sign ≡ plus ∷ [])

abbrev pub IsExponent : List ℕ → Type 0
IsExponent [] = Unit {0}
IsExponent (mark ∷ power) = ((mark ≡ small_e) ⊎ (mark ≡ large_e))
    × ((sign digits : List ℕ) × (power ≡ sign ++ digits) × IsSign sign × AreDigits digits)

pub record IsNumber (text : List ℕ) : Type 0 where
  pub minus_sign : List ℕ
  pub whole : List ℕ
  pub fraction : List ℕ
  pub exponent : List ℕ
  pub spelled : text ≡ minus_sign ++ (whole ++ (fraction ++ exponent))
  pub is_minus : IsMinus minus_sign
  pub is_whole : IsWhole whole
  pub is_fraction : IsFraction fraction
  pub is_exponent : IsExponent exponent

-- Exact decimals: a number's text (RFC 8259, section 6) as a whole number of units of 10^-24.
use Rattle.std.specs.Prelude.{◌≡◌, ◌++◌, ◌*◌, ◌^◌, ◌<◌, ℕ, Bool, if◌then◌else◌}
use Rattle.std.specs.Prelude.{ℤ, pos, neg_ℤ, ◌+ℤ◌, ◌-ℤ◌, ◌*ℤ◌, List, length, drop, unsigned_abs}
use Rattle.std.specs.Str.Parse.{signed_digits_value, digits_value}
use Rattle.city_json.specs.Number.{IsNumber}

-- the places of decimals that a unit has
abbrev pub unit_places : ℕ
unit_places = 24

-- a decimal stays below this size, in units: 10^12
abbrev pub decimal_bound : ℕ
decimal_bound = 10 ^ 36

-- the digits after the point
abbrev pub places : {text : List ℕ} → IsNumber text → List ℕ
places parts = drop 1 parts.fraction

-- the whole number that the sign and all digits before the exponent write
abbrev pub mantissa : {text : List ℕ} → IsNumber text → ℤ
mantissa parts = signed_digits_value 10 (parts.minus_sign ++ (parts.whole ++ places parts))

-- the power of ten that it is multiplied by: the exponent, or 0, less the number of places
abbrev pub power : {text : List ℕ} → IsNumber text → ℤ
power parts = signed_digits_value 10 (drop 1 parts.exponent) -ℤ pos (length (places parts))

-- n is m * 10^e, written without a negative power: n * 10^a = m * 10^b for a and b with b - a = e
pub record IsScaled (m e n : ℤ) : Type 0 where
  pub a : ℕ
  pub b : ℕ
  pub apart : pos b ≡ e +ℤ pos a
  pub equation : n *ℤ pos (10 ^ a) ≡ m *ℤ pos (10 ^ b)

-- the number is n units: its mantissa times 10^(power + 24), which is whole and below 10^36 in size
pub record IsUnits (text : List ℕ) (n : ℤ) : Type 0 where
  pub parts : IsNumber text
  pub scaled : IsScaled (mantissa parts) (power parts +ℤ pos unit_places) n
  pub small : unsigned_abs n < decimal_bound

-- the number of this sign and size
abbrev pub signed : Bool → ℕ → ℤ
signed negative size = if negative then neg_ℤ (pos size) else pos size

-- the digits write n with the point after the first `place` of them, to which zeros may fill up
abbrev pub IsPlaced : List ℕ → ℕ → ℕ → Type 0
IsPlaced digits place n = n * 10 ^ length digits ≡ digits_value 10 digits * 10 ^ place

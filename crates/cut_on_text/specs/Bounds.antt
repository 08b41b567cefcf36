-- The bytes of boundaries: numbers below a count, between brackets and commas.
use Rattle.std.specs.Prelude.{◌≡◌, ◌≤◌, ◌<◌, ◌+◌, ◌-◌, ◌*◌, ◌⊎◌, ℕ, List, [], ◌∷◌}
use Rattle.city_json.specs.Bytes.{comma, close_bracket, open_bracket}

abbrev pub IsDecimal : ℕ → Type 0
IsDecimal byte = (48 ≤ byte) × (byte ≤ 57)

abbrev pub IsMark : ℕ → Type 0
IsMark byte = (byte ≡ open_bracket) ⊎ ((byte ≡ close_bracket) ⊎ (byte ≡ comma))

-- after digits that write `value`: further digits, with which it stays below `count`, or a bracket or a comma, and so on
abbrev pub AreBounds : ℕ → ℕ → List ℕ → Type 0
AreBounds count value [] = Unit {0}
AreBounds count value (byte ∷ rest) =
    (IsDecimal byte × (value * 10 + (byte - 48) < count) × AreBounds count (value * 10 + (byte - 48)) rest)
    ⊎ (IsMark byte × AreBounds count 0 rest)

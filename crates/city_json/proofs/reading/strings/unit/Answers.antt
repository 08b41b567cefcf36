use Rattle.std.proofs.Common.{◌≡◌, ◌<◌, ◌≤◌, ◌+◌, ◌-◌, ◌*◌, ℕ, List, [], ◌∷◌, Some, length, take, drop, get_or, refl, arith, take_all}
use Rattle.std.specs.Char.{digit_value}
use Rattle.std.proofs.lemmas.Bool.{lt-ltb}
use Rattle.city_json.specs.ReadString.{unit_at}
use Rattle.city_json.proofs.reading.strings.unit.Goals as goal

-- the value of the digit at a place
abbrev DigitAt : List ℕ → ℕ → ℕ → Type 0
DigitAt bytes k n = (digit_value (get_or bytes k 0) < 16) × (n ≡ digit_value (get_or bytes k 0))

four_digits : (bytes : List ℕ) (a b c d : ℕ) → 4 ≤ length bytes → DigitAt bytes 0 a → DigitAt bytes 1 b
    → DigitAt bytes 2 c → DigitAt bytes 3 d
    → Some (((a * 16 + b) * 16 + c) * 16 + d, take (length bytes - 4) (drop 4 bytes)) ≡ unit_at bytes
unfolding unit_at
four_digits [] a b c d h p q r s = absurd (omega arith)
four_digits (x ∷ []) a b c d h p q r s = absurd (omega arith)
four_digits (x ∷ y ∷ []) a b c d h p q r s = absurd (omega arith)
four_digits (x ∷ y ∷ z ∷ []) a b c d h p q r s = absurd (omega arith)
four_digits (x ∷ y ∷ z ∷ w ∷ rest) a b c d h p q r s =
    let none : 0 + digit_value x ≡ digit_value x = omega arith in
    rw (
      lt-ltb _ _ p.0,
      lt-ltb _ _ q.0,
      lt-ltb _ _ r.0,
      lt-ltb _ _ s.0,
      p.1,
      q.1,
      r.1,
      s.1,
      none,
      take_all (length (x ∷ y ∷ z ∷ w ∷ rest) - 4) rest (omega arith),
    ) refl

pub returns-clause-read : goal.returns-clause-read
returns-clause-read c =
    four_digits c.args.bytes.now c.in_ok-hex.field-0 c.in_ok-hex-2.field-0 c.in_ok-hex-3.field-0 c.in_ok-value.field-0
    c.in-len4-up.len_at_least c.in_ok-hex.ensures c.in_ok-hex-2.ensures c.in_ok-hex-3.ensures
    c.in_ok-value.ensures

pub returns-clause-short : goal.returns-clause-short
returns-clause-short c =
    let p = c.in_ok-hex.ensures in
    let q = c.in_ok-hex-2.ensures in
    let r = c.in_ok-hex-3.ensures in
    let s = c.in_ok-value.ensures in
    omega arith

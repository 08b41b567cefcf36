-- Where numbers end in arrays of whole numbers, in their compact text.
use Rattle.std.specs.Prelude.{◌≡◌, ◌+◌, ◌||◌, ◌==◌, ℕ, Bool, not, List, drop, nat_lt}
use Rattle.std.specs.List.{prefix_len}
use Rattle.city_json.specs.Bytes.{comma, digit_nine}

-- neither a digit nor a minus sign is such a byte; a comma and a closing bracket are
abbrev pub ends_number : ℕ → Bool
ends_number c = (c == comma) || nat_lt digit_nine c

abbrev pub stays_in_number : ℕ → Bool
stays_in_number c = not (ends_number c)

-- how many bytes stand before the first such one
abbrev pub number_len : List ℕ → ℕ
number_len bytes = prefix_len stays_in_number bytes

-- where the three numbers end of the array whose opening bracket is at `at`
abbrev pub AreTripleEnds : List ℕ → ℕ → ℕ → ℕ → ℕ → Type 0
AreTripleEnds text at first second third = (first ≡ at + 1 + number_len (drop (at + 1) text))
    × (second ≡ first + 1 + number_len (drop (first + 1) text))
    × (third ≡ second + 1 + number_len (drop (second + 1) text))

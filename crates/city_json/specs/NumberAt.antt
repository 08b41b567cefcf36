-- Reading a number (RFC 8259, section 6): the one that stands at the front of the bytes, as far as it goes.
use Rattle.std.specs.Prelude.{◌≡◌, ◌==◌, ◌||◌, ◌-◌, ℕ, Bool, true, false, List, [], ◌∷◌, Option, Some, None, length, take, if◌then◌else◌}
use Rattle.std.specs.Char.{is_ascii_digit}
use Rattle.std.specs.Option.{option_map, option_and_then}
use Rattle.city_json.specs.Bytes.{digit_zero, minus, plus, point, small_e, large_e}

-- what follows the digits at the front
abbrev pub past_digits : List ℕ → List ℕ
past_digits [] = []
past_digits (c ∷ cs) = if is_ascii_digit c then past_digits cs else c ∷ cs

-- the same, where there is a digit
abbrev pub past_some_digits : List ℕ → Option (List ℕ)
past_some_digits [] = None
past_some_digits (c ∷ cs) = if is_ascii_digit c then Some (past_digits cs) else None

-- A zero is a whole part by itself.
abbrev pub past_whole : List ℕ → Option (List ℕ)
past_whole [] = None
past_whole (c ∷ cs) = if c == digit_zero then Some cs else past_some_digits (c ∷ cs)

abbrev pub past_minus : List ℕ → List ℕ
past_minus [] = []
past_minus (c ∷ cs) = if c == minus then cs else c ∷ cs

abbrev pub past_sign : List ℕ → List ℕ
past_sign [] = []
past_sign (c ∷ cs) = if c == plus || c == minus then cs else c ∷ cs

-- A point is no number's end.
abbrev pub past_fraction : List ℕ → Option (List ℕ)
past_fraction [] = Some []
past_fraction (c ∷ cs) = if c == point then past_some_digits cs else Some (c ∷ cs)

-- An `e` is no number's end.
abbrev pub past_exponent : List ℕ → Option (List ℕ)
past_exponent [] = Some []
past_exponent (c ∷ cs) = if c == small_e || c == large_e then past_some_digits (past_sign cs) else Some (c ∷ cs)

-- what follows the number at the front
abbrev pub past_number : List ℕ → Option (List ℕ)
past_number b = option_and_then past_exponent (option_and_then past_fraction (past_whole (past_minus b)))

-- the bytes before the rest, and the rest
abbrev pub split_before : List ℕ → List ℕ → List ℕ × List ℕ
split_before b rest = (take (length b - length rest) b, rest)

-- the number at the front, and what follows it
abbrev pub number_at : List ℕ → Option (List ℕ × List ℕ)
number_at b = option_map (split_before b) (past_number b)

-- A number that stands before this byte may go on with it.
abbrev pub continues_number : ℕ → Bool
continues_number c = is_ascii_digit c || c == point || c == small_e || c == large_e

-- what may follow a number, which then ends here
abbrev pub EndsNumber : List ℕ → Type 0
EndsNumber [] = Unit {0}
EndsNumber (c ∷ cs) = continues_number c ≡ false

-- A number begins with a minus or a digit.
abbrev pub starts_number : ℕ → Bool
starts_number c = c == minus || is_ascii_digit c

abbrev pub StartsNumber : List ℕ → Type 0
StartsNumber [] = ⊥
StartsNumber (c ∷ cs) = starts_number c ≡ true

-- the bytes that numbers are made of
abbrev pub is_number_byte : ℕ → Bool
is_number_byte c = is_ascii_digit c || c == minus || c == plus || c == point || c == small_e || c == large_e

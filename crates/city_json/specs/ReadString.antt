-- What a reader of strings gives, as a function on lists: the text, and the bytes that are left.
use Rattle.std.specs.Prelude.{◌++◌, ◌+◌, ◌-◌, ◌*◌, ◌==◌, ◌&&◌, ◌||◌, ℕ, zero, suc, Bool, not, List, [], ◌∷◌, Option, Some, None, option_map, option_and_then, length, encode_utf8, nat_lt, nat_le, if◌then◌else◌}
use Rattle.std.specs.Char.{is_digit}
use Rattle.std.specs.List.{list_all}
use Rattle.std.specs.Str.{is_utf8}
use Rattle.std.specs.Str.Parse.{digits_value}
use Rattle.city_json.specs.Bytes.{quotation_mark, backslash, small_u, space}
use Rattle.city_json.specs.Strings.{letter_meaning}

-- a byte that stands for itself
abbrev pub is_plain : ℕ → Bool
is_plain b = nat_le space b && not ((b == quotation_mark) || (b == backslash))

-- the first unit of a pair: D800 to DBFF
abbrev pub is_high_surrogate : ℕ → Bool
is_high_surrogate unit = nat_le 0xd800 unit && nat_lt unit 0xdc00

-- the second unit of a pair: DC00 to DFFF
abbrev pub is_low_surrogate : ℕ → Bool
is_low_surrogate unit = nat_le 0xdc00 unit && nat_lt unit 0xe000

-- four hexadecimal digits, as their value and what is left
unfoldable pub unit_at : List ℕ → Option (ℕ × List ℕ)
unit_at (a ∷ b ∷ c ∷ d ∷ rest) =
    let digits = a ∷ b ∷ c ∷ d ∷ [] in
    if list_all (λ digit. is_digit digit 16) digits then Some (digits_value 16 digits, rest) else None
unit_at _ = None

-- a high surrogate and the unit after it, as the character that they are together
abbrev pub paired : ℕ → ℕ × List ℕ → Option (ℕ × List ℕ)
paired high low =
    if is_low_surrogate low.0 then Some (0x10000 + (high - 0xd800) * 0x400 + (low.0 - 0xdc00), low.1) else None

-- what stands after a high surrogate: at once a second escape, with which it is one character
unfoldable pub pair_at : ℕ → List ℕ → Option (ℕ × List ℕ)
pair_at high (a ∷ b ∷ rest) =
    if (a == backslash) && (b == small_u) then option_and_then (paired high) (unit_at rest) else None
pair_at high _ = None

-- a unit as its character: a high surrogate goes on with a second escape, and a low one stands for nothing alone
abbrev pub completed : ℕ × List ℕ → Option (ℕ × List ℕ)
completed unit =
    if is_high_surrogate unit.0 then pair_at unit.0 unit.1
    else (if is_low_surrogate unit.0 then None else Some unit)

-- what stands after a backslash, as its character and what is left
unfoldable pub escape_at : List ℕ → Option (ℕ × List ℕ)
escape_at [] = None
escape_at (letter ∷ rest) =
    if letter == small_u then option_and_then completed (unit_at rest)
    else option_map (λ c. (c, rest)) (letter_meaning letter)

-- more text in front of what was read
abbrev pub prepend : List ℕ → Option (List ℕ × List ℕ) → Option (List ℕ × List ℕ)
prepend front read = option_map (λ r. (front ++ r.0, r.1)) read

-- what stands before the closing quotation mark, decoded, in at most so many steps
unfoldable pub decode : ℕ → List ℕ → Option (List ℕ × List ℕ)
decode zero bytes = None
decode (suc steps) [] = None
decode (suc steps) (b ∷ bytes) =
    if b == quotation_mark then Some ([], bytes)
    else (if b == backslash then option_and_then (λ e. prepend (encode_utf8 e.0) (decode steps e.1)) (escape_at bytes)
    else (if is_plain b then prepend (b ∷ []) (decode steps bytes) else None))

-- the same with enough steps for all of the bytes
unfoldable pub decoded : List ℕ → Option (List ℕ × List ℕ)
decoded bytes = decode (length bytes) bytes

-- the bytes of a text, where they are UTF-8, beside what is left
abbrev pub checked : List ℕ → List ℕ → Option (List ℕ × List ℕ)
checked text rest = if is_utf8 text then Some (text, rest) else None

-- the string whose opening quotation mark stands before these bytes
abbrev pub string_at : List ℕ → Option (List ℕ × List ℕ)
string_at bytes = option_and_then (λ read. checked read.0 read.1) (decoded bytes)

-- Strings (RFC 8259, section 7): what stands between quotation marks, and the text that it stands for.
use Rattle.std.specs.Prelude.{◌≡◌, ◌≢◌, ◌⊎◌, ◌++◌, ◌+◌, ◌*◌, ◌<◌, ◌≤◌, ◌==◌, ℕ, List, [], ◌∷◌, Option, Some, None, length, encode_utf8, encode_utf8_all, if◌then◌else◌}
use Rattle.std.specs.Char.{IsScalar}
use Rattle.std.specs.Str.Parse.{AllDigits, digits_value}
use Rattle.city_json.specs.Bytes.{quotation_mark, backslash, slash, small_b, small_f, small_n, small_r, small_t, small_u, backspace, tab, newline, form_feed, carriage_return, space}

-- a character that stands for itself
abbrev pub IsUnescaped : ℕ → Type 0
IsUnescaped c = IsScalar c × (space ≤ c) × (c ≢ quotation_mark) × (c ≢ backslash)

-- the character that a letter after a backslash stands for
abbrev pub letter_meaning : ℕ → Option ℕ
letter_meaning letter =
    if letter == quotation_mark then Some quotation_mark
    else (if letter == backslash then Some backslash
    else (if letter == slash then Some slash
    else (if letter == small_b then Some backspace
    else (if letter == small_f then Some form_feed
    else (if letter == small_n then Some newline
    else (if letter == small_r then Some carriage_return
    else (if letter == small_t then Some tab
    else None)))))))

-- four hexadecimal digits of either case, and their value
abbrev pub IsUnit : List ℕ → ℕ → Type 0
IsUnit digits unit = (length digits ≡ 4) × AllDigits 16 digits × (unit ≡ digits_value 16 digits)

abbrev pub IsLetterEscape : List ℕ → ℕ → Type 0
IsLetterEscape piece c = (letter : ℕ) × (piece ≡ backslash ∷ letter ∷ []) × (letter_meaning letter ≡ Some c)

-- `\u` and the number of a character, which is no surrogate
abbrev pub IsUnitEscape : List ℕ → ℕ → Type 0
IsUnitEscape piece c = (digits : List ℕ) × (piece ≡ backslash ∷ small_u ∷ digits) × IsUnit digits c × IsScalar c

-- a high and a low surrogate, which together are one character past U+FFFF
abbrev pub IsPairEscape : List ℕ → ℕ → Type 0
IsPairEscape piece c = (first second : List ℕ) × (high low : ℕ)
    × (piece ≡ backslash ∷ small_u ∷ (first ++ backslash ∷ small_u ∷ second))
    × IsUnit first (0xd800 + high) × (high < 0x400)
    × IsUnit second (0xdc00 + low) × (low < 0x400)
    × (c ≡ 0x10000 + high * 0x400 + low)

-- a piece of a string, and the one character that it stands for
abbrev pub StandsFor : List ℕ → ℕ → Type 0
StandsFor piece c = (IsUnescaped c × (piece ≡ encode_utf8 c)) ⊎ IsLetterEscape piece c ⊎ IsUnitEscape piece c
    ⊎ IsPairEscape piece c

-- pieces that stand for these characters, in order
abbrev pub SpellsCharacters : List ℕ → List ℕ → Type 0
SpellsCharacters [] body = body ≡ []
SpellsCharacters (c ∷ cs) body = (piece rest : List ℕ) × (body ≡ piece ++ rest) × StandsFor piece c
    × SpellsCharacters cs rest

-- the string b spells the text, given as its bytes in UTF-8
abbrev pub SpellsString : List ℕ → List ℕ → Type 0
SpellsString text b = (characters body : List ℕ)
    × (text ≡ encode_utf8_all characters)
    × SpellsCharacters characters body
    × (b ≡ quotation_mark ∷ body ++ quotation_mark ∷ [])

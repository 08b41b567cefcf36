-- Letters that stand after a backslash where a character is written by two (RFC 8259, section 7).
use Rattle.std.specs.Prelude.{◌==◌, ◌||◌, ℕ, Bool}
use Rattle.city_json.specs.Bytes.{quotation_mark, backslash, small_b, small_f, small_n, small_r, small_t}

abbrev pub is_letter_written : ℕ → Bool
is_letter_written letter = letter == quotation_mark || letter == backslash || letter == small_b || letter == small_f
    || letter == small_n || letter == small_r || letter == small_t

-- When a text nests too deeply, told from its bytes alone, whether it is JSON or not.
use Rattle.std.specs.Prelude.{◌≡◌, ◌++◌, ◌+◌, ◌<◌, ◌==◌, ◌||◌, ℕ, Bool, List, [], ◌∷◌, count_by, if◌then◌else◌}
use Rattle.city_json.specs.Bytes.{quotation_mark, backslash, open_bracket, close_bracket, open_brace, close_brace}
use Rattle.byte_streams.specs.Limits.{max_depth}

-- where a byte stands: outside strings, in one, or in one after a backslash
pub data Place : Type 0 where
  outside : Place
  inside : Place
  escaped : Place

abbrev pub is_opening : ℕ → Bool
is_opening b = (b == open_bracket) || (b == open_brace)

abbrev pub is_closing : ℕ → Bool
is_closing b = (b == close_bracket) || (b == close_brace)

-- the place after a byte
abbrev pub place_after : Place → ℕ → Place
place_after outside b = if b == quotation_mark then inside else outside
place_after inside b = if b == quotation_mark then outside else (if b == backslash then escaped else inside)
place_after escaped b = inside

-- the bytes that stand outside strings
abbrev pub unquoted : Place → List ℕ → List ℕ
unquoted place [] = []
unquoted outside (b ∷ bytes) = b ∷ unquoted (place_after outside b) bytes
unquoted inside (b ∷ bytes) = unquoted (place_after inside b) bytes
unquoted escaped (b ∷ bytes) = unquoted (place_after escaped b) bytes

-- At some place more than 128 brackets are open: those opened so far, less those closed so far.
abbrev pub IsDeep : List ℕ → Type 0
IsDeep text = (front back : List ℕ) × (unquoted outside text ≡ front ++ back)
    × (count_by is_closing front + max_depth < count_by is_opening front)

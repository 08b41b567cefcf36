-- Where the names of members lie: in the text, or among those with escapes, which are held decoded, one after another.
-- Places of the text go on from its end in what is held. A name in the text ends before the text does.
use Rattle.std.specs.Prelude.{◌≡◌, ◌+◌, ◌-◌, ◌<◌, ◌≤◌, ◌^◌, ℕ, List, [], ◌∷◌, length, nat_lt, if◌then◌else◌, slice_range}
use Rattle.city_json.specs.ListedNames.{ListedName, as_written, as_decoded}
use Rattle.city_json.specs.declared.compacting.name.Name.{Name}

-- the bytes of the decoded name
abbrev pub name_bytes : List ℕ → List ℕ → Name → List ℕ
name_bytes text held name =
    if nat_lt name.end (length text) then slice_range text name.from name.end
    else slice_range held (name.from - length text) (name.end - length text)

-- the same, where only the text's length is known
abbrev pub listed_name : ℕ → List ℕ → Name → ListedName
listed_name text_len held name =
    if nat_lt name.end text_len then as_written name.from name.end
    else as_decoded (slice_range held (name.from - text_len) (name.end - text_len))

-- the name lies in a text, or in what is held, of these lengths
pub record IsWithin (text_len held_len : ℕ) (name : Name) : Type 0 where
  pub ordered : name.from ≤ name.end
  pub inside : name.end ≤ text_len + held_len
  pub apart : text_len ≤ name.end → text_len ≤ name.from

-- where the next name that is held may begin
abbrev pub after_name : ℕ → ℕ → Name → ℕ
after_name text_len from name = if nat_lt name.end text_len then from else name.end

-- those that are held lie one after another, and nothing else, from `from` on up to `end`
abbrev pub LieInOrder : ℕ → ℕ → List Name → ℕ → Type 0
LieInOrder text_len from [] end = from ≡ end
LieInOrder text_len from (name ∷ others) end = (name.from ≤ name.end) × (text_len ≤ name.end → from ≡ name.from)
    × LieInOrder text_len (after_name text_len from name) others end

-- where the first of these begins that is held, or else `end`
abbrev pub first_held : ℕ → List Name → ℕ → ℕ
first_held text_len [] end = end
first_held text_len (name ∷ others) end =
    if nat_lt name.end text_len then first_held text_len others end else name.from

-- names of a text, whose places are short
pub record AreListed (text_len : ℕ) (listed : List Name) (held_len : ℕ) : Type 0 where
  pub short : text_len < 2 ^ 32
  pub in_order : LieInOrder text_len text_len listed (text_len + held_len)

-- How triples of whole numbers are found in a text, 64 bytes at a time.
use Rattle.std.specs.Prelude.{◌≡◌, ◌⊎◌, ◌++◌, ◌+◌, ◌<◌, ◌≤◌, ◌-◌, ◌||◌, ◌==◌, ℕ, Bool, true, not, List, [], ◌∷◌, map, get_or, slice_range, min}
use Rattle.std.specs.Char.{is_ascii_digit}
use Rattle.std.specs.Simd.Lanes.{mask_l}
use Rattle.std.specs.Int.{bit_at}
use Rattle.city_json.specs.Bytes.{digit_zero, minus, comma, open_bracket, close_bracket}
use Rattle.city_json.specs.Compact.{compact, compact_items}
use Rattle.city_json.specs.Tree.{Tree, ItemTrees, no_items, item}
use Rattle.city_json.specs.Triples.{AreTriples, IsTriple}

-- such an array stands between two places
pub record IsTripleText (text : List ℕ) (at end : ℕ) : Type 0 where
  pub value : Tree
  pub triple : IsTriple value
  pub written : slice_range text at end ≡ compact value

-- one or more of them, with commas between them, and the bracket that closes the array around them
pub record ClosesTriples (text : List ℕ) : Type 0 where
  pub first : Tree
  pub others : ItemTrees
  pub triple : IsTriple first
  pub triples : AreTriples others
  pub written : text ≡ compact_items (item first others) ++ close_bracket ∷ []

abbrev pub with_commas : ItemTrees → List ℕ
with_commas no_items = []
with_commas (item value others) = compact value ++ comma ∷ with_commas others

-- any number of them, each with a comma after it
pub record PassesTriples (text : List ℕ) : Type 0 where
  pub items : ItemTrees
  pub triples : AreTriples items
  pub written : text ≡ with_commas items

-- a byte that is neither a digit nor a minus sign
abbrev pub is_separator : ℕ → Bool
is_separator c = not (is_ascii_digit c || (c == minus))

-- a digit, or a minus sign after a separator
abbrev pub IsInNumber : List ℕ → ℕ → Type 0
IsInNumber bytes i = (is_ascii_digit (get_or bytes i 0) ≡ true)
    ⊎ ((get_or bytes i 0 ≡ minus) × (0 < i) × (is_separator (get_or bytes (i - 1) 0) ≡ true))

-- ---- a block's bytes as bits of words
abbrev pub HasBit : ℕ → ℕ → Type 0
HasBit word i = bit_at word i ≡ 1

abbrev pub HasNoBit : ℕ → ℕ → Type 0
HasNoBit word i = bit_at word i ≡ 0

-- it has no bit at the place, and none before it
abbrev pub HasNoneUpTo : ℕ → ℕ → Type 0
HasNoneUpTo at word = (i : ℕ) → i ≤ at → HasNoBit word i

-- each word has the bits of the bytes of a kind
pub record AreKinds (bytes : List ℕ) (digits zeros minuses commas opens closes : ℕ) : Type 0 where
  pub digit : digits ≡ mask_l (map is_ascii_digit bytes)
  pub zero_digit : zeros ≡ mask_l (map (λ b. b == digit_zero) bytes)
  pub minus_sign : minuses ≡ mask_l (map (λ b. b == minus) bytes)
  pub comma_mark : commas ≡ mask_l (map (λ b. b == comma) bytes)
  pub opened : opens ≡ mask_l (map (λ b. b == open_bracket) bytes)
  pub closed : closes ≡ mask_l (map (λ b. b == close_bracket) bytes)

-- a bit of the second word is one of the first, one place on
abbrev pub IsAfter : ℕ → ℕ → Type 0
IsAfter word after = HasNoBit after 0 × ((i : ℕ) → i + 1 < 64 → bit_at after (i + 1) ≡ bit_at word i)

-- the first word's bits that the second has not
abbrev pub AreWithout : ℕ → ℕ → ℕ → Type 0
AreWithout marks others word = (i : ℕ) → i < 64 → bit_at word i ≡ min (bit_at marks i) (1 - bit_at others i)

-- no mark stands in a number
abbrev pub AreApart : ℕ → ℕ → Type 0
AreApart marks numbers = (i : ℕ) → HasBit marks i → HasNoBit numbers i

-- the first byte in no number after each mark has a bit
abbrev pub AreNext : ℕ → ℕ → ℕ → Type 0
AreNext marks numbers next = (at end : ℕ) → at < end → end < 64 → HasBit marks at
    → ((i : ℕ) → at < i → i < end → HasBit numbers i) → HasNoBit numbers end → HasBit next end

-- the last of sixteen digits has a bit
abbrev pub EndsRuns : ℕ → ℕ → Type 0
EndsRuns digits ends = (i : ℕ) → i + 15 < 64 → ((j : ℕ) → i ≤ j → j < i + 16 → HasBit digits j) → HasBit ends (i + 15)

-- what may stand at a place as far as the ends of numbers tell
pub record DoEndsFit (commas opens closes first second third i : ℕ) : Type 0 where
  pub begins : i ≡ 0 → HasBit opens i
  pub after_first : HasBit first i → HasBit commas i
  pub after_second : HasBit second i → HasBit commas i
  pub after_third : HasBit third i → HasBit closes i
  pub more : (j : ℕ) → i ≡ j + 2 → HasBit third j → HasBit opens i × HasBit commas (j + 1)

-- what may stand at a place as far as numbers tell
pub record DoNumbersFit (digits zeros minuses opens inner starts i : ℕ) : Type 0 where
  pub some : HasBit starts i → HasBit inner i ⊎ HasBit opens i
  pub signed : (j : ℕ) → i ≡ j + 1 → HasBit minuses j → HasBit digits i × HasNoBit zeros i
  pub whole : (j : ℕ) → i ≡ j + 1 → HasBit zeros j → HasBit starts j → HasNoBit digits i
  pub few : (j : ℕ) → i ≡ j + 15 → ((k : ℕ) → j ≤ k → k < j + 16 → HasBit digits k) → ⊥

-- Arrays of three whole numbers each, as the vertices of a feature are (CityJSON 2.0, CityJSONFeature), in their
-- compact text.
use Rattle.std.specs.Prelude.{◌≡◌, ◌≢◌, ◌⊎◌, ◌++◌, ◌<◌, ◌≤◌, ℕ, List, [], ◌∷◌, length, get_or, slice_range}
use Rattle.city_json.specs.Bytes.{digit_zero, minus}
use Rattle.city_json.specs.Compact.{compact}
use Rattle.city_json.specs.Number.{IsWhole}
use Rattle.city_json.specs.declared.compacting.places.Span.{Span}
use Rattle.city_json.specs.Tree.{Tree, array, number, ItemTrees, no_items, item}

-- a whole number of at most fifteen digits: no zero stands before other digits, and no minus sign before a zero
pub record IsShortNumeral (text : List ℕ) : Type 0 where
  pub sign : List ℕ
  pub whole : List ℕ
  pub splits : text ≡ sign ++ whole
  pub is_sign : (sign ≡ []) ⊎ ((sign ≡ minus ∷ []) × (get_or whole 0 0 ≢ digit_zero))
  pub is_whole : IsWhole whole
  pub few : length whole ≤ 15

abbrev pub three_numbers : List ℕ → List ℕ → List ℕ → Tree
three_numbers x y z = array (item (number x) (item (number y) (item (number z) no_items)))

-- an array of three such numbers
pub record IsTriple (value : Tree) : Type 0 where
  pub x : List ℕ
  pub y : List ℕ
  pub z : List ℕ
  pub is : value ≡ three_numbers x y z
  pub short_x : IsShortNumeral x
  pub short_y : IsShortNumeral y
  pub short_z : IsShortNumeral z

abbrev pub AreTriples : ItemTrees → Type 0
AreTriples no_items = Unit {0}
AreTriples (item value others) = IsTriple value × AreTriples others

-- the compact text of an array of such arrays stands between two places
pub record IsTriplesText (text : List ℕ) (at end : ℕ) : Type 0 where
  pub items : ItemTrees
  pub triples : AreTriples items
  pub written : slice_range text at end ≡ compact (array items)

-- what is noted of a text: nothing, or where one stands in it
abbrev pub HasTriples : List ℕ → Span → Type 0
HasTriples text span = span.from < span.end
    → (span.end ≤ length text) × IsTriplesText text span.from span.end

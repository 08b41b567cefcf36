-- Nested arrays of vertex indices (CityJSON 2.0, Geometry Objects).
use Rattle.std.specs.Prelude.{◌≡◌, ◌<◌, ℕ, List, [], ◌∷◌, ◌++◌}
use Rattle.std.specs.Fmt.{decimal}
use Rattle.std.specs.Str.Parse.{digits_value}
use Rattle.city_json.specs.Tree.{Tree, number, array, ItemTrees, no_items, item}

-- the plain decimal text of one of the numbers below `count`
abbrev pub IsIndex : ℕ → List ℕ → Type 0
IsIndex count text = (k : ℕ) × (k < count) × (text ≡ decimal k)

-- a number of such a text, or a nested array of them
abbrev mutual
  pub IsNested : ℕ → Tree → Type 0
  IsNested count (number text) = IsIndex count text
  IsNested count (array items) = AreNested count items
  IsNested count other = ⊥

  pub AreNested : ℕ → ItemTrees → Type 0
  AreNested count no_items = Unit {0}
  AreNested count (item value others) = IsNested count value × AreNested count others

abbrev pub IsBoundary : ℕ → Tree → Type 0
IsBoundary count (array items) = AreNested count items
IsBoundary count other = ⊥

-- the numbers that stand in it, read from left to right
abbrev mutual
  pub leaves : Tree → List ℕ
  leaves (number text) = digits_value 10 text ∷ []
  leaves (array items) = item_leaves items
  leaves other = []

  pub item_leaves : ItemTrees → List ℕ
  item_leaves no_items = []
  item_leaves (item value others) = leaves value ++ item_leaves others

-- the same nested array with another text at each leaf
abbrev mutual
  pub relabelled : (List ℕ → List ℕ) → Tree → Tree
  relabelled change (number text) = number (change text)
  relabelled change (array items) = array (relabelled_items change items)
  relabelled change other = other

  pub relabelled_items : (List ℕ → List ℕ) → ItemTrees → ItemTrees
  relabelled_items change no_items = no_items
  relabelled_items change (item value others) = item (relabelled change value) (relabelled_items change others)

-- another number for the one that the text writes
abbrev pub renumbered : (ℕ → ℕ) → List ℕ → List ℕ
renumbered label text = decimal (label (digits_value 10 text))

-- The children of objects, found by the texts that name them.
use Rattle.std.specs.Prelude.{◌≡◌, ℕ, Bool, List, Some, Contains, length}
use Rattle.std.specs.Borrow.{Bor}
use Rattle.std.specs.List.{AllZip}
use Rattle.city_json.specs.Tree.{Tree, member_trees, string}
use Rattle.cut_on_text.specs.PlacedObjects.{AreObjects, PlacedObjects}
use Rattle.city_families.specs.CityObjects.{AllBelong, AreCityObjects, AreTexts, LacksChild}
use Rattle.city_families.specs.Families.{AreRelated}
use Rattle.city_families.specs.Items.{items_of}
use Rattle.city_families.specs.Places.{ArePlaced}
use Rattle.city_families.specs.Search.{InRange}
use Rattle.city_json.specs.CompactTexts.{IsCompactOf}

-- whatever value has this text, it is an array of texts, and these are the places of those among the names
abbrev pub HasRow : List (List ℕ) → List ℕ → List ℕ → Type 0
HasRow names text row = (value : Tree) → IsCompactOf text value
    → AreTexts value × ArePlaced names (items_of (Some value)) row

-- the same of the children of objects
abbrev pub HaveRows : List (List ℕ) → List (Bor (List ℕ)) → List (List ℕ) → Type 0
HaveRows names texts rows = AllZip (λ (text : Bor (List ℕ)) (row : List ℕ). HasRow names text.now row) texts rows

-- whatever value has this text, some text in it is none of the names
abbrev pub NamesMissing : List (List ℕ) → List ℕ → Type 0
NamesMissing names text = (value : Tree) → IsCompactOf text value
    → (name : List ℕ) × Contains (items_of (Some value)) (string name) × ¬ Contains names name

-- the same of one of the texts
abbrev pub SomeNamesMissing : List (List ℕ) → List (Bor (List ℕ)) → Type 0
SomeNamesMissing names texts = (text : Bor (List ℕ)) × Contains texts text × NamesMissing names text.now

-- of these objects, the places of their children, and whether each has parents; each is in a family
pub record AreKin (objects : PlacedObjects) (children : List (List ℕ)) (parents : List Bool) : Type 0 where
  pub range : InRange children (length children)
  pub long : length parents ≡ length children
  pub related : (pairs : List (List ℕ × Tree)) → AreObjects objects pairs
      → AreCityObjects (member_trees pairs) × (¬ LacksChild (member_trees pairs)) × AllBelong (member_trees pairs)
      × AreRelated pairs children parents

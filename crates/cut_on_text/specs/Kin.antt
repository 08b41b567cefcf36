-- What the text of a city object says of its parents and its children.
use Rattle.std.specs.Prelude.{◌≡◌, ℕ, Bool, List, IsUtf8, unwrap_or, codes}
use Rattle.std.specs.Borrow.{Bor}
use Rattle.std.specs.List.{AllZip}
use Rattle.city_json.specs.Compact.{quoted}
use Rattle.city_json.specs.Members.{member_of}
use Rattle.city_json.specs.Tree.{Tree, string, array, ItemTrees, no_items}
use Rattle.city_feature.specs.Shapes.{IsObject, WhereThere}
use Rattle.city_families.specs.CityObjects.{AreTexts, has_parents}
use Rattle.city_families.specs.Items.{item_list}
use Rattle.city_json.specs.CompactTexts.{IsCompactOf}

-- the text with its marks
abbrev pub IsQuoted : Bor (List ℕ) → Tree → Type 0
IsQuoted given (string text) = (given.now ≡ quoted text) × IsUtf8 text
IsQuoted given other = ⊥

-- an array of texts, each of which is given with its marks
abbrev pub AreQuoted : List (Bor (List ℕ)) → Tree → Type 0
AreQuoted given value = (items : ItemTrees) × (value ≡ array items) × AllZip IsQuoted given (item_list items)

-- an object whose parents are an array of texts where they are there, and whether these are some
pub record HasParents (value : Tree) (has : Bool) : Type 0 where
  pub is_object : IsObject value
  pub texts : WhereThere AreTexts (member_of (codes "parents") value)
  pub is_so : has ≡ has_parents value

-- the text of what stands in the member `children`, or of an empty array
abbrev pub HasChildrenText : Tree → Bor (List ℕ) → Type 0
HasChildrenText value given = IsCompactOf given.now (unwrap_or (member_of (codes "children") value) (array no_items))

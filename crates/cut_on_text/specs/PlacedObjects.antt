-- The city objects of a document, by their places in their text.
use Rattle.std.specs.Prelude.{◌≡◌, ◌<◌, ◌++◌, ◌∷◌, [], ℕ, List, length}
use Rattle.city_json.specs.Bytes.{colon}
use Rattle.city_json.specs.Compact.{quoted}
use Rattle.city_json.specs.CompactTexts.{IsCompactOf}
use Rattle.city_json.specs.Parts.{AreParts}
use Rattle.city_json.specs.Tree.{Tree, member_trees, object}
use Rattle.city_json.specs.declared.compacting.places.MemberPlace.{MemberPlace}
use Rattle.city_families.specs.Chosen.{named_at}
use Rattle.cut_on_text.specs.declared.on_text.holders.HeldParts.{HeldParts}

-- the text of them all, where each lies with its name, and where boundaries may stand in it
pub record PlacedObjects : Type 0 where
  pub text : List ℕ
  pub places : List MemberPlace
  pub held : List HeldParts

-- these are the objects, each with its name
abbrev pub AreObjects : PlacedObjects → List (List ℕ × Tree) → Type 0
AreObjects objects pairs =
    IsCompactOf objects.text (object (member_trees pairs)) × AreParts 1 objects.places (member_trees pairs)

-- at a place is an object of this name, which is given with its marks and its colon, and of this compact text
abbrev pub IsObjectAt : List (List ℕ × Tree) → ℕ → List ℕ → List ℕ → Type 0
IsObjectAt pairs at name value = (at < length pairs) × (name ≡ quoted (named_at pairs at).0 ++ colon ∷ [])
    × IsCompactOf value (named_at pairs at).1

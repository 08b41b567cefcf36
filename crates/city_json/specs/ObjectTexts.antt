-- The compact text of an object, with the places of its members in it.
use Rattle.std.specs.Prelude.{◌≡◌, ◌++◌, ◌∷◌, [], ℕ, List, Option, Some, None, IsUtf8, unwrap_or}
use Rattle.city_json.specs.Bytes.{colon}
use Rattle.city_json.specs.Compact.{quoted}
use Rattle.city_json.specs.CompactTexts.{IsCompactOf}
use Rattle.city_json.specs.Depth.{IsDeep}
use Rattle.city_json.specs.Fits.{Fits}
use Rattle.city_json.specs.Grammar.{Spells}
use Rattle.city_json.specs.Members.{first_named}
use Rattle.city_json.specs.Parts.{AreParts}
use Rattle.city_json.specs.Reading.{text_at}
use Rattle.city_json.specs.Tree.{Tree, null, boolean, number, string, array, object, MemberTrees, no_members}
use Rattle.city_json.specs.declared.compacting.places.MemberPlace.{MemberPlace}

-- a text, and places of members in it
pub record PlacedObject : Type 0 where
  pub text : List ℕ
  pub parts : List MemberPlace

-- the members of an object; of any other value none
abbrev pub members_in : Option Tree → MemberTrees
members_in None = no_members
members_in (Some null) = no_members
members_in (Some (boolean b)) = no_members
members_in (Some (number n)) = no_members
members_in (Some (string s)) = no_members
members_in (Some (array items)) = no_members
members_in (Some (object members)) = members

-- the members of the object that the text spells
abbrev pub members_of : PlacedObject → MemberTrees
members_of there = members_in (text_at there.text)

-- the text is the compact text of an object that fits, and these are the parts of its members
pub record IsPlacedObject (there : PlacedObject) : Type 0 where
  pub of : IsCompactOf there.text (object (members_of there))
  pub are : AreParts 1 there.parts (members_of there)

-- this is the compact text of the value of the first member of a name, which is given with its marks and a colon
abbrev pub IsValueOf : List ℕ → PlacedObject → List ℕ → Type 0
IsValueOf given there found = (name : List ℕ) → IsUtf8 name → given ≡ quoted name ++ colon ∷ []
    → (value : Tree) × (first_named name (members_of there) ≡ Some value) × IsCompactOf found value

-- no member has the name that is given so
abbrev pub HasNone : List ℕ → PlacedObject → Type 0
HasNone given there = (name : List ℕ) → given ≡ quoted name ++ colon ∷ [] → first_named name (members_of there) ≡ None

-- the object that the text spells
abbrev pub object_of : PlacedObject → Tree
object_of there = object (members_of there)

-- this is the compact text of that value, or, where no member has the name, of this other one
abbrev pub IsValueOr : List ℕ → PlacedObject → List ℕ → List ℕ → Type 0
IsValueOr given there other found = (name : List ℕ) → IsUtf8 name → given ≡ quoted name ++ colon ∷ []
    → (value : Tree) → IsCompactOf other value
    → IsCompactOf found (unwrap_or (first_named name (members_of there)) value)

-- the text does not nest too deeply, and spells this object, which fits
abbrev pub SpellsThere : List ℕ → PlacedObject → Type 0
SpellsThere text there = Spells text (object_of there) × Fits (object_of there) × (¬ IsDeep text)

-- Where the members of an object lie in its compact text, and an object with the value of one member exchanged.
use Rattle.std.specs.Prelude.{◌≡◌, ◌≢◌, ◌++◌, ◌+◌, ◌<◌, ◌≤◌, ℕ, zero, suc, List, [], ◌∷◌, length, get_or, take, drop, slice_range}
use Rattle.city_json.specs.Bytes.{colon}
use Rattle.city_json.specs.Compact.{quoted, compact}
use Rattle.city_json.specs.Tree.{Tree, MemberTrees, no_members, member}
use Rattle.city_json.specs.declared.compacting.places.MemberPlace.{MemberPlace}

-- in a text in which `front` bytes stand before the member, it lies there
abbrev pub IsPart : ℕ → MemberPlace → List ℕ → Tree → Type 0
IsPart front part name value = (part.at ≡ front) × (part.value ≡ front + length (quoted name ++ colon ∷ []))
    × (part.end ≡ part.value + length (compact value))

-- the same of members with a comma between them
abbrev pub AreParts : ℕ → List MemberPlace → MemberTrees → Type 0
AreParts front [] no_members = Unit {0}
AreParts front [] (member name value others) = ⊥
AreParts front (part ∷ parts) no_members = ⊥
AreParts front (part ∷ parts) (member name value others) = IsPart front part name value
    × AreParts (part.end + 1) parts others

-- a text in which the value's part of it is another
abbrev pub with_value : List ℕ → MemberPlace → List ℕ → List ℕ
with_value text part value = take part.value text ++ (value ++ drop part.end text)

-- the members with another value at place k, from 0; the same members where there is no such place
abbrev pub replaced : ℕ → Tree → MemberTrees → MemberTrees
replaced k value no_members = no_members
replaced zero value (member name other others) = member name value others
replaced (suc k) value (member name other others) = member name other (replaced k value others)

-- the member at place k, from 0, has this name and this value
abbrev pub HasMember : ℕ → List ℕ → Tree → MemberTrees → Type 0
HasMember k name value no_members = ⊥
HasMember zero name value (member other found others) = (other ≡ name) × (found ≡ value)
HasMember (suc k) name value (member other found others) = HasMember k name value others

-- the compact texts of the name and the value of the member at place k stand in this part of a text
pub record IsMemberText (text : List ℕ) (part : MemberPlace) (k : ℕ) (members : MemberTrees) : Type 0 where
  pub name : List ℕ
  pub value : Tree
  pub has : HasMember k name value members
  pub named : slice_range text part.at part.value ≡ quoted name ++ colon ∷ []
  pub valued : slice_range text part.value part.end ≡ compact value

-- one of the parts, where this text stands up to the value
pub record IsPartNamed (line : List ℕ) (parts : List MemberPlace) (name : List ℕ) (part : MemberPlace) : Type 0 where
  pub place : ℕ
  pub within : place < length parts
  pub is : get_or parts place part ≡ part
  pub named : slice_range line part.at part.value ≡ name

-- none of the first parts that lie within the text has this name
abbrev pub NotNamed : List ℕ → List MemberPlace → List ℕ → ℕ → Type 0
NotNamed text parts given n = (i : ℕ) (d : MemberPlace) → i < n → i < length parts
    → (get_or parts i d).at ≤ (get_or parts i d).value → (get_or parts i d).value ≤ length text
    → slice_range text (get_or parts i d).at (get_or parts i d).value ≢ given

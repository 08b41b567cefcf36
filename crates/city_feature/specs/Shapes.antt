-- What kind of value stands at a member, and what it says.
use Rattle.std.specs.Prelude.{◌≡◌, ℕ, List, Option, Some, None, option_map}
use Rattle.city_json.specs.Compact.{compact}
use Rattle.city_json.specs.Members.{member_of}
use Rattle.city_json.specs.Tree.{Tree, string, array, item, object, member}
use Rattle.city_feature.specs.declared.kinds.MemberKind.{MemberKind}
use Rattle.city_feature.specs.declared.kinds.MemberKind.TheVariants.{Text, Array, FilledArray, Object, FilledObject}

abbrev pub IsObject : Tree → Type 0
IsObject (object all) = Unit {0}
IsObject other = ⊥

abbrev pub IsArray : Tree → Type 0
IsArray (array all) = Unit {0}
IsArray other = ⊥

abbrev pub IsText : Tree → Type 0
IsText (string text) = Unit {0}
IsText other = ⊥

-- an object that has a member
abbrev pub IsFilledObject : Tree → Type 0
IsFilledObject (object (member name value others)) = Unit {0}
IsFilledObject other = ⊥

-- an array that has an item
abbrev pub IsFilledArray : Tree → Type 0
IsFilledArray (array (item value others)) = Unit {0}
IsFilledArray other = ⊥

abbrev pub IsOf : MemberKind → Tree → Type 0
IsOf Text value = IsText value
IsOf Array value = IsArray value
IsOf FilledArray value = IsFilledArray value
IsOf Object value = IsObject value
IsOf FilledObject value = IsFilledObject value

-- there is a value, and it is such a one
abbrev pub IsThere : (Tree → Type 0) → Option Tree → Type 0
IsThere Shape None = ⊥
IsThere Shape (Some value) = Shape value

-- where there is a value, it is such a one
abbrev pub WhereThere : (Tree → Type 0) → Option Tree → Type 0
WhereThere Shape None = Unit {0}
WhereThere Shape (Some value) = Shape value

-- the member of this name is this text
abbrev pub Says : List ℕ → List ℕ → Tree → Type 0
Says name text value = member_of name value ≡ Some (string text)

-- the member of a value that is perhaps not there
abbrev pub member_in : List ℕ → Option Tree → Option Tree
member_in name None = None
member_in name (Some value) = member_of name value

-- both are absent, or both are there with one compact text
abbrev pub AreSame : Option Tree → Option Tree → Type 0
AreSame a b = option_map compact a ≡ option_map compact b

-- The members of an object, by name.
use Rattle.std.specs.Prelude.{ℕ, List, [], ◌∷◌, Option, Some, None, bytes_eq, if◌then◌else◌}
use Rattle.city_json.specs.Tree.{Tree, object, MemberTrees, no_members, member}

-- the value of the first member of this name
abbrev pub first_named : List ℕ → MemberTrees → Option Tree
first_named name no_members = None
first_named name (member other value others) = if bytes_eq other name then Some value else first_named name others

-- a value that is no object has no members
abbrev pub member_of : List ℕ → Tree → Option Tree
member_of name (object members) = first_named name members
member_of name other = None

-- the names, in the order of the members
abbrev pub names : MemberTrees → List (List ℕ)
names no_members = []
names (member name value others) = name ∷ names others

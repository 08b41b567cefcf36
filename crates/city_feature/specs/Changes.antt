-- Objects of which one member is changed: every other member stays as it is, at its place.
use Rattle.std.specs.Prelude.{ℕ, List, bytes_eq, if◌then◌else◌}
use Rattle.city_json.specs.Tree.{Tree, object, MemberTrees, no_members, member}

-- with this value for the first of this name; as the last, where there is none of the name
abbrev pub with_named : List ℕ → Tree → MemberTrees → MemberTrees
with_named name value no_members = member name value no_members
with_named name value (member other old others) =
    if bytes_eq other name then member other value others
    else member other old (with_named name value others)

-- with another value for the first of this name; as they are, where there is none
abbrev pub changed_named : List ℕ → (Tree → Tree) → MemberTrees → MemberTrees
changed_named name change no_members = no_members
changed_named name change (member other value others) =
    if bytes_eq other name then member other (change value) others
    else member other value (changed_named name change others)

-- without the first of this name
abbrev pub without_named : List ℕ → MemberTrees → MemberTrees
without_named name no_members = no_members
without_named name (member other value others) =
    if bytes_eq other name then others else member other value (without_named name others)

-- a value that is no object stays as it is
abbrev pub with_member : List ℕ → Tree → Tree → Tree
with_member name value (object members) = object (with_named name value members)
with_member name value other = other

abbrev pub without_member : List ℕ → Tree → Tree
without_member name (object members) = object (without_named name members)
without_member name other = other

abbrev pub changed_member : List ℕ → (Tree → Tree) → Tree → Tree
changed_member name change (object members) = object (changed_named name change members)
changed_member name change other = other

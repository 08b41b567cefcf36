-- The joined header member by member: which changes are still to come, and what becomes of each member.
use Rattle.std.specs.Prelude.{ℕ, Bool, true, false, List, codes, bytes_eq, if◌then◌else◌}
use Rattle.city_json.specs.Tree.{Tree, object, MemberTrees, no_members, member}
use Rattle.city_grid.specs.Axes.{Texts, three}
use Rattle.city_feature.specs.Changes.{changed_named, with_member, with_named, without_member}
use Rattle.city_feature.specs.declared.joining.line.Changes.{Changes}

-- the first member of the wanted name is still to come, and it is this one
abbrev pub is_next : Bool → List ℕ → List ℕ → Bool
is_next to_come wanted name = if to_come then bytes_eq name wanted else false

-- it is still to come after this one
abbrev pub is_later : Bool → List ℕ → List ℕ → Bool
is_later to_come wanted name = if bytes_eq name wanted then false else to_come

abbrev pub changed_if : Bool → List ℕ → (Tree → Tree) → MemberTrees → MemberTrees
changed_if to_come name change members = if to_come then changed_named name change members else members

abbrev pub set_if : Bool → List ℕ → Tree → MemberTrees → MemberTrees
set_if to_come name value members = if to_come then with_named name value members else members

-- the members from some place on, in which these changes are still to come
abbrev pub joined_members : Changes → MemberTrees → Texts → MemberTrees → MemberTrees
joined_members changes extensions texts members =
    changed_if changes.transform (codes "transform") (with_member (codes "translate") (three texts))
    (set_if changes.extensions (codes "extensions") (object extensions)
    (changed_if changes.metadata (codes "metadata") (without_member (codes "geographicalExtent")) members))

-- the value of a member, where these changes are still to come
abbrev pub joined_member : Changes → MemberTrees → Texts → List ℕ → Tree → Tree
joined_member changes extensions texts name value =
    if is_next changes.metadata (codes "metadata") name
    then without_member (codes "geographicalExtent") value
    else (if is_next changes.extensions (codes "extensions") name then object extensions
    else (if is_next changes.transform (codes "transform") name
    then with_member (codes "translate") (three texts) value
    else value))

-- the changes that are still to come after a member of this name
abbrev pub changes_after : Changes → List ℕ → Changes
changes_after changes name = record {
  metadata = is_later changes.metadata (codes "metadata") name;
  extensions = is_later changes.extensions (codes "extensions") name;
  transform = is_later changes.transform (codes "transform") name;
}

abbrev pub has_members : MemberTrees → Bool
has_members no_members = false
has_members (member name value others) = true

-- extensions are set where there are any
abbrev pub all_changes : MemberTrees → Changes
all_changes extensions = record { metadata = true; extensions = has_members extensions; transform = true }

-- the extensions as a last member, where they are still to come
abbrev pub last_members : Changes → MemberTrees → MemberTrees
last_members changes extensions =
    if changes.extensions then member (codes "extensions") (object extensions) no_members else no_members

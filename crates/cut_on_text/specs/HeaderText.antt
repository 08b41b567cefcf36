-- The header of a document, member by member.
use Rattle.std.specs.Prelude.{◌≡◌, ℕ, suc, zero, Bool, List, bytes_eq, codes, if◌then◌else◌, ◌&&◌, [], ◌∷◌}
use Rattle.city_json.specs.Compact.{compact_members, compact_more_members}
use Rattle.city_json.specs.Tree.{Tree, array, no_items, object, MemberTrees, no_members, member}
use Rattle.city_grid.specs.Transform.{Grid}
use Rattle.city_feature.specs.Header.{IsHeader}
use Rattle.city_families.specs.Cut.{header_tree}

-- what stands there for the value of a member of this name
abbrev pub value_in_header : List ℕ → Tree → Tree
value_in_header name value =
    if bytes_eq name (codes "CityObjects") then object no_members
    else if bytes_eq name (codes "vertices") then array no_items
    else value

-- the members of the header; the appearance is one of them, unless it is dropped
abbrev pub header_members : Bool → MemberTrees → MemberTrees
header_members drops no_members = no_members
header_members drops (member name value others) =
    if drops && bytes_eq name (codes "appearance") then header_members drops others
    else member name (value_in_header name value) (header_members drops others)

-- the text of members that come after what was written of an object: with a comma before them, unless that is its brace
abbrev pub members_text_after : List ℕ → MemberTrees → List ℕ
members_text_after [] members = compact_members members
members_text_after (first ∷ []) members = compact_members members
members_text_after (first ∷ (second ∷ more)) members = compact_more_members members

-- the members from a place on
abbrev pub members_from : ℕ → MemberTrees → MemberTrees
members_from zero members = members
members_from (suc k) no_members = no_members
members_from (suc k) (member name value others) = members_from k others

-- the value is the document's header
abbrev pub HasHeader : Tree → Tree → Grid → Type 0
HasHeader document value grid = (value ≡ header_tree document) × IsHeader value grid

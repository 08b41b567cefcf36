-- Where a city object has boundaries (CityJSON 2.0, Geometry Objects and City Objects): in its geometries, and in the
-- locations of its addresses.
use Rattle.std.specs.Prelude.{◌++◌, ℕ, List, [], Option, Some, None, map, bytes_eq, if◌then◌else◌, codes}
use Rattle.std.specs.List.{flat_map, AllByRecursion}
use Rattle.std.specs.Option.{option_to_list}
use Rattle.city_json.specs.Members.{member_of}
use Rattle.city_json.specs.Tree.{Tree, array, object, ItemTrees, no_items, item, MemberTrees, no_members, member}
use Rattle.city_feature.specs.Shapes.{IsArray, IsObject, WhereThere}
use Rattle.city_families.specs.Items.{items_of}
use Rattle.city_families.specs.Leaves.{IsBoundary, leaves, relabelled}

-- the member `boundaries` of a geometry or a location, where there is one
abbrev pub own_boundary : Tree → List Tree
own_boundary value = option_to_list (member_of (codes "boundaries") value)

-- that of an address's location
abbrev pub located : Option Tree → List Tree
located None = []
located (Some location) = own_boundary location

abbrev pub address_boundary : Tree → List Tree
address_boundary value = located (member_of (codes "location") value)

-- the boundaries of a city object, in the order in which they are numbered
abbrev pub boundaries : Tree → List Tree
boundaries city_object =
    flat_map own_boundary (items_of (member_of (codes "geometry") city_object))
    ++ flat_map address_boundary (items_of (member_of (codes "address") city_object))

-- a member with its value changed if it has this name
abbrev pub changed : List ℕ → (Tree → Tree) → List ℕ × Tree → List ℕ × Tree
changed name change pair = (pair.0, if bytes_eq pair.0 name then change pair.1 else pair.1)

-- the members with the value of each that has this name changed
abbrev pub changed_members : List ℕ → (Tree → Tree) → MemberTrees → MemberTrees
changed_members name change no_members = no_members
changed_members name change (member other value others) =
    member other (if bytes_eq other name then change value else value) (changed_members name change others)

abbrev pub in_member : List ℕ → (Tree → Tree) → Tree → Tree
in_member name change (object members) = object (changed_members name change members)
in_member name change other = other

abbrev pub changed_items : (Tree → Tree) → ItemTrees → ItemTrees
changed_items change no_items = no_items
changed_items change (item value others) = item (change value) (changed_items change others)

abbrev pub in_items : (Tree → Tree) → Tree → Tree
in_items change (array items) = array (changed_items change items)
in_items change other = other

-- a geometry or a location with another text at each leaf of its boundary
abbrev pub relabelled_boundary : (List ℕ → List ℕ) → Tree → Tree
relabelled_boundary change value = in_member (codes "boundaries") (relabelled change) value

abbrev pub relabelled_geometries : (List ℕ → List ℕ) → Tree → Tree
relabelled_geometries change value = in_items (relabelled_boundary change) value

abbrev pub relabelled_addresses : (List ℕ → List ℕ) → Tree → Tree
relabelled_addresses change value = in_items (in_member (codes "location") (relabelled_boundary change)) value

-- a city object with another text at each leaf of its boundaries, and else the same
abbrev pub relabelled_object : (List ℕ → List ℕ) → Tree → Tree
relabelled_object change city_object =
    in_member (codes "geometry") (relabelled_geometries change)
    (in_member (codes "address") (relabelled_addresses change) city_object)

-- the same of one of its members
abbrev pub relabelled_part : (List ℕ → List ℕ) → List ℕ × Tree → List ℕ × Tree
relabelled_part change pair =
    changed (codes "geometry") (relabelled_geometries change)
    (changed (codes "address") (relabelled_addresses change) pair)

-- the vertices that the objects name, object by object
abbrev pub uses : List (List ℕ × Tree) → List ℕ
uses objects = flat_map (λ named. flat_map leaves (boundaries named.1)) objects

-- the objects, with another text at each leaf of their boundaries
abbrev pub relabelled_objects : (List ℕ → List ℕ) → List (List ℕ × Tree) → List (List ℕ × Tree)
relabelled_objects change objects = map (λ named. (named.0, relabelled_object change named.1)) objects

abbrev pub IsGeometry : ℕ → Tree → Type 0
IsGeometry count value = IsObject value × AllByRecursion (IsBoundary count) (own_boundary value)

abbrev pub IsAddress : ℕ → Tree → Type 0
IsAddress count value = AllByRecursion (IsBoundary count) (address_boundary value)

-- the geometries are objects, and all boundaries are nested arrays of indices below `count`
abbrev pub IsBounded : ℕ → Tree → Type 0
IsBounded count city_object =
    WhereThere IsArray (member_of (codes "geometry") city_object)
    × AllByRecursion (IsGeometry count) (items_of (member_of (codes "geometry") city_object))
    × AllByRecursion (IsAddress count) (items_of (member_of (codes "address") city_object))

-- The members of a city object in whose items boundaries stand, each with its own rules.
use Rattle.std.specs.Prelude.{ℕ, List, [], Option, Some, None, codes, if◌then◌else◌, length, slice_range, unwrap_or, ◌==◌, ◌-◌, ◌++◌, ◌∷◌}
use Rattle.std.specs.List.{flat_map, AllByRecursion}
use Rattle.city_json.specs.Bytes.{colon}
use Rattle.city_json.specs.Compact.{compact, quoted}
use Rattle.city_json.specs.Members.{member_of}
use Rattle.city_json.specs.Tree.{Tree, null}
use Rattle.city_json.specs.declared.compacting.places.MemberPlace.{MemberPlace}
use Rattle.city_feature.specs.Shapes.{IsArray, WhereThere}
use Rattle.city_families.specs.Boundaries.{IsAddress, IsGeometry, address_boundary, in_items, in_member, own_boundary, relabelled_boundary}
use Rattle.city_families.specs.Items.{items_of}
use Rattle.city_families.specs.Leaves.{leaves}
use Rattle.cut_on_text.specs.declared.on_text.holders.Holder.{Holder}
use Rattle.cut_on_text.specs.declared.on_text.holders.HeldParts.{HeldParts}
use Rattle.cut_on_text.specs.declared.on_text.holders.Holder.TheVariants.{Geometry, Address}

abbrev pub name_of : Holder → List ℕ
name_of Geometry = codes "geometry"
name_of Address = codes "address"

abbrev pub other_than : Holder → Holder
other_than Geometry = Address
other_than Address = Geometry

-- an item, whose boundaries are nested arrays of indices below `count`
abbrev pub IsHeld : Holder → ℕ → Tree → Type 0
IsHeld Geometry count value = IsGeometry count value
IsHeld Address count value = IsAddress count value

abbrev pub boundary_in : Holder → Tree → List Tree
boundary_in Geometry value = own_boundary value
boundary_in Address value = address_boundary value

-- an item with another text at each leaf of its boundary
abbrev pub relabelled_in : Holder → (List ℕ → List ℕ) → Tree → Tree
relabelled_in Geometry change value = relabelled_boundary change value
relabelled_in Address change value = in_member (codes "location") (relabelled_boundary change) value

-- the same of the whole member
abbrev pub relabelled_held : Holder → (List ℕ → List ℕ) → Tree → Tree
relabelled_held holder change value = in_items (relabelled_in holder change) value

-- geometries are an array; addresses that are none have no boundary
abbrev pub IsShaped : Holder → Tree → Type 0
IsShaped Geometry value = IsArray value
IsShaped Address value = Unit {0}

abbrev pub AreHeld : Holder → ℕ → Tree → Type 0
AreHeld holder count value = IsShaped holder value × AllByRecursion (IsHeld holder count) (items_of (Some value))

-- the vertices that the items name
abbrev pub held_uses : Holder → Tree → List ℕ
held_uses holder value = flat_map leaves (flat_map (boundary_in holder) (items_of (Some value)))

-- where a member begins whose value begins at `value`, with its name and its colon before it
abbrev pub holder_begin : Holder → ℕ → ℕ
holder_begin holder value = value - length (quoted (name_of holder) ++ colon ∷ [])

-- the part in which such a member lies; none, where it ends at 0
abbrev pub part_unless : Holder → ℕ → ℕ → Option MemberPlace
part_unless holder value end =
    if end == 0 then None else Some (record { at = holder_begin holder value; value = value; end = end })

-- ---- of a city object, where the member may be there or not
abbrev pub part_in : Holder → HeldParts → Option MemberPlace
part_in Geometry held = held.geometry
part_in Address held = held.address

abbrev pub AreHeldIn : Holder → ℕ → Tree → Type 0
AreHeldIn holder count value = WhereThere (AreHeld holder count) (member_of (name_of holder) value)

abbrev pub uses_in : Holder → Tree → List ℕ
uses_in holder value = flat_map leaves (flat_map (boundary_in holder) (items_of (member_of (name_of holder) value)))

-- how far the text of the object is copied, once this part of it is
abbrev pub part_end : ℕ → Option MemberPlace → ℕ
part_end from None = from
part_end from (Some part) = part.end

-- what is copied up to there, with other texts at the leaves
abbrev pub copied_to : List ℕ → ℕ → Option MemberPlace → Holder → (List ℕ → List ℕ) → Tree → List ℕ
copied_to text from None holder change value = []
copied_to text from (Some part) holder change value = slice_range text from part.value
    ++ compact (relabelled_held holder change (unwrap_or (member_of (name_of holder) value) null))

-- where the first member was copied up to one count, and the second up to another: the leaves of the geometries begin there
abbrev pub split_by : Holder → ℕ → ℕ → ℕ
split_by Geometry before between = before
split_by Address before between = between

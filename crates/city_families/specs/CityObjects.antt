-- The city objects of a document, and their parents and children (CityJSON 2.0, City Objects): the members
-- `parents` and `children` of an object name others.
use Rattle.std.specs.Prelude.{◌≡◌, List, [], ◌∷◌, ℕ, Bool, true, false, if◌then◌else◌, Option, Some, None, Contains, codes}
use Rattle.city_json.specs.Members.{first_named, member_of, names}
use Rattle.city_json.specs.Tree.{Tree, string, array, ItemTrees, no_items, item, MemberTrees, no_members, member}
use Rattle.city_feature.specs.Shapes.{IsObject, IsText, WhereThere}
use Rattle.city_families.specs.Items.{items_in, items_of, values}
use Rattle.city_json.specs.ObjectTexts.{members_in}
use Rattle.city_families.specs.Reach.{Reached}

-- the city objects of a document, by their identifiers
abbrev pub objects_of : Tree → MemberTrees
objects_of document = members_in (member_of (codes "CityObjects") document)

abbrev pub vertices_of : Tree → ItemTrees
vertices_of document = items_in (member_of (codes "vertices") document)

abbrev pub AllTexts : ItemTrees → Type 0
AllTexts no_items = Unit {0}
AllTexts (item value others) = IsText value × AllTexts others

abbrev pub AreTexts : Tree → Type 0
AreTexts (array items) = AllTexts items
AreTexts other = ⊥

-- an object, of which the parents and the children are arrays of texts where they are there
abbrev pub IsCityObject : Tree → Type 0
IsCityObject value =
    IsObject value
    × WhereThere AreTexts (member_of (codes "parents") value)
    × WhereThere AreTexts (member_of (codes "children") value)

abbrev pub AreCityObjects : MemberTrees → Type 0
AreCityObjects no_members = Unit {0}
AreCityObjects (member id value others) = IsCityObject value × AreCityObjects others

-- what stands in the member `children`
abbrev pub children : Tree → List Tree
children city_object = items_of (member_of (codes "children") city_object)

-- the children of the object `parent` name `child`
abbrev pub IsChild : MemberTrees → List ℕ → List ℕ → Type 0
IsChild objects parent child =
    (city_object : Tree) × (first_named parent objects ≡ Some city_object) × Contains (children city_object) (string child)

-- the least set of identifiers that has `id` and, with each object, its children
abbrev pub IsReached : MemberTrees → List ℕ → List ℕ → Type 0
IsReached objects id = Reached (IsChild objects) id

-- it is neither absent nor an empty array
abbrev pub is_filled : Option Tree → Bool
is_filled None = false
is_filled (Some (array no_items)) = false
is_filled (Some other) = true

-- an object without parents begins a feature
abbrev pub has_parents : Tree → Bool
has_parents city_object = is_filled (member_of (codes "parents") city_object)

-- the identifiers of the objects that begin a feature, in order
abbrev pub roots : MemberTrees → List (List ℕ)
roots no_members = []
roots (member id city_object others) = if has_parents city_object then roots others else id ∷ roots others

-- the children of some object name one that is not there
abbrev pub LacksChild : MemberTrees → Type 0
LacksChild objects =
    (city_object : Tree) × Contains (values objects) city_object
    × (child : List ℕ) × Contains (children city_object) (string child) × ¬ Contains (names objects) child

-- some object is reached from none that begins a feature
abbrev pub HasOrphan : MemberTrees → Type 0
HasOrphan objects =
    (name : List ℕ) × Contains (names objects) name × ((id : List ℕ) → Contains (roots objects) id → ¬ IsReached objects id name)

-- each object is reached from one that begins a feature
abbrev pub AllBelong : MemberTrees → Type 0
AllBelong objects =
    (name : List ℕ) → Contains (names objects) name → (id : List ℕ) × Contains (roots objects) id × IsReached objects id name

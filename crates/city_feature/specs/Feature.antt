-- Features (CityJSON 2.0, Text sequences and streaming with CityJSONFeature), and how they are moved.
use Rattle.std.specs.Prelude.{◌≡◌, ◌⊎◌, ℕ, suc, List, [], ◌∷◌, All, Some, codes, map}
use Rattle.city_json.specs.Members.{member_of}
use Rattle.city_json.specs.Tree.{Tree, array, ItemTrees, no_items, item, item_trees}
use Rattle.byte_streams.specs.declared.fault.Fault.{Fault}
use Rattle.byte_streams.specs.declared.fault.Fault.TheVariants.{NotAFeature, VertexShape, VertexNotInteger, VertexRange, Memory}
use Rattle.city_grid.specs.Axes.{Triple, IsInRange, sum}
use Rattle.city_grid.specs.Vertex.{IsVertex, RefusesVertex, vertex_tree}
use Rattle.city_feature.specs.Changes.{with_member}
use Rattle.city_feature.specs.Shapes.{IsObject, IsArray, IsText, IsThere, Says}

-- what a feature is to a contract: its value, and its vertices in steps of the grid
pub record FeatureValue : Type 0 where
  pub value : Tree
  pub vertices : List Triple

-- an object of the type `CityJSONFeature` with an identifier, city objects and vertices
abbrev pub HasFeatureShape : Tree → Type 0
HasFeatureShape value =
    Says (codes "type") (codes "CityJSONFeature") value
    × IsThere IsText (member_of (codes "id") value)
    × IsThere IsObject (member_of (codes "CityObjects") value)
    × IsThere IsArray (member_of (codes "vertices") value)

-- the items are these vertices, in order
abbrev pub AreVertices : ItemTrees → List Triple → Type 0
AreVertices no_items [] = Unit {0}
AreVertices no_items (p ∷ ps) = ⊥
AreVertices (item value others) [] = ⊥
AreVertices (item value others) (p ∷ ps) = IsVertex value p × IsInRange p × AreVertices others ps

abbrev pub HasVertices : Tree → List Triple → Type 0
HasVertices value ps =
    (items : ItemTrees)
    × (member_of (codes "vertices") value ≡ Some (array items))
    × AreVertices items ps

abbrev pub IsFeature : Tree → List Triple → Type 0
IsFeature value ps = HasFeatureShape value × HasVertices value ps

abbrev pub item_count : ItemTrees → ℕ
item_count no_items = 0
item_count (item value others) = suc (item_count others)

-- an array of this many items
abbrev pub HasItems : ℕ → Tree → Type 0
HasItems count (array items) = item_count items ≡ count
HasItems count other = ⊥

-- the first item that is no vertex is refused so
abbrev pub RefusesFirst : Fault → ItemTrees → Type 0
RefusesFirst fault no_items = ⊥
RefusesFirst fault (item value others) =
    RefusesVertex fault value
    ⊎ ((p : Triple) × IsVertex value p × IsInRange p × RefusesFirst fault others)

abbrev pub HasBadVertex : Fault → Tree → Type 0
HasBadVertex fault value =
    (items : ItemTrees)
    × HasFeatureShape value
    × (member_of (codes "vertices") value ≡ Some (array items))
    × RefusesFirst fault items

-- why a value is no feature: it is no CityJSONFeature object; or it is one, and of its vertices the
-- first that is at fault is at this one
abbrev pub RefusesFeature : Fault → Tree → Type 0
RefusesFeature NotAFeature value = ¬ HasFeatureShape value
RefusesFeature VertexShape value = HasBadVertex VertexShape value
RefusesFeature VertexNotInteger value = HasBadVertex VertexNotInteger value
RefusesFeature VertexRange value = HasBadVertex VertexRange value
RefusesFeature Memory value = HasFeatureShape value
RefusesFeature other value = ⊥

-- the array of these vertices, each as three integers in decimal
abbrev pub vertices_tree : List Triple → Tree
vertices_tree ps = array (item_trees (map vertex_tree ps))

abbrev pub moved_vertices : List Triple → Triple → List Triple
moved_vertices ps k = map (λ p. sum p k) ps

-- the feature with each vertex moved by k; every other member as it was, at its place
abbrev pub moved : FeatureValue → Triple → FeatureValue
moved feature k =
    record {
      value = with_member (codes "vertices") (vertices_tree (moved_vertices feature.vertices k)) feature.value;
      vertices = moved_vertices feature.vertices k;
    }

-- written in decimal, the vertices are read as what they were
abbrev pub AreReadAgain : List Triple → Type 0
AreReadAgain ps = AreVertices (item_trees (map vertex_tree ps)) ps

-- no vertex leaves the range on the way
abbrev pub IsMovable : FeatureValue → Triple → Type 0
IsMovable feature k = All IsInRange (moved_vertices feature.vertices k)

abbrev pub RefusesMove : Fault → FeatureValue → Triple → Type 0
RefusesMove VertexRange feature k = ¬ IsMovable feature k
RefusesMove Memory feature k = Unit {0}
RefusesMove other feature k = ⊥

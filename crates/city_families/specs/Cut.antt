-- A CityJSON document cut into features (CityJSON 2.0, Text sequences and streaming with CityJSONFeature): what its header
-- and its features are, and why it is refused.
use Rattle.std.specs.Prelude.{◌≡◌, ◌⊎◌, ℕ, List, [], ◌∷◌, Option, Some, None, codes}
use Rattle.std.specs.List.{AllZip, AllByRecursion}
use Rattle.city_json.specs.Members.{member_of}
use Rattle.city_json.specs.Tree.{Tree, string, array, no_items, object, MemberTrees, no_members, member, member_trees}
use Rattle.byte_streams.specs.declared.fault.Fault.{Fault}
use Rattle.byte_streams.specs.declared.fault.Fault.TheVariants.{NotCityJson, Version, NoTransform, Decimal, ScaleNotPositive, VertexShape, VertexNotInteger, VertexRange, ChildMissing, Orphan, BoundaryIndex, Memory}
use Rattle.city_grid.specs.Axes.{Triple}
use Rattle.city_grid.specs.Transform.{Grid}
use Rattle.city_feature.specs.Changes.{changed_member, without_member}
use Rattle.city_feature.specs.Feature.{AreVertices, FeatureValue, RefusesFirst, item_count, vertices_tree}
use Rattle.city_feature.specs.Header.{HasGrid, HeaderValue, IsCityJson, IsVersion2, RefusesGrid}
use Rattle.city_families.specs.Boundaries.{IsBounded}
use Rattle.city_families.specs.CityObjects.{AllBelong, AreCityObjects, HasOrphan, IsReached, LacksChild, objects_of, roots, vertices_of}
use Rattle.city_families.specs.Items.{values}
use Rattle.city_families.specs.Points.{SamePoints}

-- those of the members whose names are such, in their order
abbrev pub AreThose : (List ℕ → Type 0) → MemberTrees → List (List ℕ × Tree) → Type 0
AreThose Is no_members chosen = chosen ≡ []
AreThose Is (member name value others) chosen =
    (Is name × ((rest : List (List ℕ × Tree)) × (chosen ≡ (name, value) ∷ rest) × AreThose Is others rest))
    ⊎ ((¬ Is name) × AreThose Is others chosen)

-- the appearance as the last member, where there is one
abbrev pub appearance_members : Option Tree → MemberTrees
appearance_members None = no_members
appearance_members (Some appearance) = member (codes "appearance") appearance no_members

-- a feature has just these members, in this order
abbrev pub feature_tree : List ℕ → List (List ℕ × Tree) → Tree → Option Tree → Tree
feature_tree id objects vertices appearance =
    object (member (codes "type") (string (codes "CityJSONFeature"))
    (member (codes "id") (string id)
    (member (codes "CityObjects") (object (member_trees objects))
    (member (codes "vertices") vertices
    (appearance_members appearance)))))

-- the feature that the object `id` begins: the objects that are reached from it, in the document's order, with vertices
-- of their own
pub record IsFeatureOf (city_objects : MemberTrees) (appearance : Option Tree) (points : List Triple) (id : List ℕ) (feature : FeatureValue) : Type 0 where
  pub chosen : List (List ℕ × Tree)
  pub objects : List (List ℕ × Tree)
  pub reached : AreThose (IsReached city_objects id) city_objects chosen
  pub same_points : SamePoints points chosen feature.vertices objects
  pub is : feature.value ≡ feature_tree id objects (vertices_tree feature.vertices) appearance

-- a feature for each object without parents, in the document's order
abbrev pub AreFeatures : MemberTrees → Option Tree → List Triple → List FeatureValue → Type 0
AreFeatures city_objects appearance points features =
    AllZip (IsFeatureOf city_objects appearance points) (roots city_objects) features

-- geometry templates may refer to the appearance
abbrev pub without_appearance : Option Tree → Tree → Tree
without_appearance None document = without_member (codes "appearance") document
without_appearance (Some templates) document = document

-- the document with no city objects and no vertices, and without its appearance unless it has geometry templates
abbrev pub header_tree : Tree → Tree
header_tree document =
    changed_member (codes "CityObjects") (λ objects. object no_members)
    (changed_member (codes "vertices") (λ vertices. array no_items)
    (without_appearance (member_of (codes "geometry-templates") document) document))

-- the features of the document; each of its objects stands in one at least
abbrev pub HasFeatures : Tree → List FeatureValue → Type 0
HasFeatures document features =
    ((points : List Triple)
    × AreVertices (vertices_of document) points
    × AreFeatures (objects_of document) (member_of (codes "appearance") document) points features)
    × AllBelong (objects_of document)

-- and a header with the document's grid
abbrev pub IsCut : Tree → HeaderValue → List FeatureValue → Type 0
IsCut document header features =
    HasFeatures document features × (header.value ≡ header_tree document) × HasGrid document header.grid

-- a CityJSON object whose city objects are well formed
abbrev pub IsCityDocument : Tree → Type 0
IsCityDocument document = IsCityJson document × AreCityObjects (objects_of document)

-- of the right kind and version, on a grid
abbrev pub HasFrame : Tree → Type 0
HasFrame document = IsCityDocument document × IsVersion2 document × ((grid : Grid) × HasGrid document grid)

-- and its vertices are valid
abbrev pub HasValidVertices : Tree → Type 0
HasValidVertices document = HasFrame document × ((points : List Triple) × AreVertices (vertices_of document) points)

-- each boundary is a nested array of the numbers of vertices
abbrev pub AreBounded : Tree → Type 0
AreBounded document = AllByRecursion (IsBounded (item_count (vertices_of document))) (values (objects_of document))

-- nothing of it is refused
abbrev pub IsCuttable : Tree → Type 0
IsCuttable document =
    HasValidVertices document × (¬ LacksChild (objects_of document)) × (¬ HasOrphan (objects_of document)) × AreBounded document

abbrev pub RefusesFrame : Fault → Tree → Type 0
RefusesFrame fault document =
    IsCityDocument document × IsVersion2 document × RefusesGrid fault (member_of (codes "transform") document)

abbrev pub RefusesDocumentVertices : Fault → Tree → Type 0
RefusesDocumentVertices fault document = HasFrame document × RefusesFirst fault (vertices_of document)

-- why a document is not cut: it is no CityJSON object with city objects; or it is one of another version; or its
-- transform is missing, malformed or outside the profile; or of its vertices the first that is at fault is at this one;
-- or a child names no object; or an object is in no feature; or a boundary is none
abbrev pub RefusesCut : Fault → Tree → Type 0
RefusesCut NotCityJson document = ¬ IsCityDocument document
RefusesCut Version document = IsCityDocument document × ¬ IsVersion2 document
RefusesCut NoTransform document = RefusesFrame NoTransform document
RefusesCut Decimal document = RefusesFrame Decimal document
RefusesCut ScaleNotPositive document = RefusesFrame ScaleNotPositive document
RefusesCut VertexShape document = RefusesDocumentVertices VertexShape document
RefusesCut VertexNotInteger document = RefusesDocumentVertices VertexNotInteger document
RefusesCut VertexRange document = RefusesDocumentVertices VertexRange document
RefusesCut ChildMissing document = HasValidVertices document × LacksChild (objects_of document)
RefusesCut Orphan document = HasValidVertices document × (¬ LacksChild (objects_of document)) × HasOrphan (objects_of document)
RefusesCut BoundaryIndex document =
    HasValidVertices document × (¬ LacksChild (objects_of document)) × (¬ HasOrphan (objects_of document)) × ¬ AreBounded document
RefusesCut Memory document = HasValidVertices document
RefusesCut other document = ⊥

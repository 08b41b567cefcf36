-- The document without its city objects and vertices is a header with the document's grid.
use Rattle.std.proofs.Common.{◌≡◌, ℕ, List, Option, Some, None, bytes_eq, false, option_map, refl, sym, subst, ◌∙◌}
use Rattle.std.specs.Prelude.{codes}
use Rattle.city_json.specs.Members.{member_of}
use Rattle.city_json.specs.Tree.{Tree, array, no_items, object, no_members}
use Rattle.city_grid.specs.Transform.{Grid}
use Rattle.city_feature.specs.Changes.{changed_member}
use Rattle.city_feature.specs.Header.{HasGrid, IsCityJson, IsHeader, IsVersion2}
use Rattle.city_feature.specs.Shapes.{IsArray, IsObject, WhereThere}
use Rattle.city_families.specs.Cut.{header_tree, without_appearance}
use Rattle.city_families.proofs.MemberChanges.{kept, left, own}

without : (n : List ℕ) (templates : Option Tree) (document : Tree) → bytes_eq (codes "appearance") n ≡ false
    → member_of n (without_appearance templates document) ≡ member_of n document
without n None document apart = left (codes "appearance") n document apart
without n (Some templates) document apart = refl

-- a member of another name stays
pub other_member : (n : List ℕ) (document : Tree) → bytes_eq (codes "CityObjects") n ≡ false
    → bytes_eq (codes "vertices") n ≡ false → bytes_eq (codes "appearance") n ≡ false
    → member_of n (header_tree document) ≡ member_of n document
other_member n document objects vertices appearance =
    kept (codes "CityObjects") n (λ objects. object no_members)
    (changed_member (codes "vertices") (λ vertices. array no_items) bare) objects
    ∙ (kept (codes "vertices") n (λ vertices. array no_items) bare vertices
    ∙ without n (member_of (codes "geometry-templates") document) document appearance)
  where
    bare : Tree
    bare = without_appearance (member_of (codes "geometry-templates") document) document

no_objects : (document : Tree) → member_of (codes "CityObjects") (header_tree document)
    ≡ option_map (λ objects. object no_members)
    (member_of (codes "CityObjects") (changed_member (codes "vertices") (λ vertices. array no_items)
    (without_appearance (member_of (codes "geometry-templates") document) document)))
no_objects document = own (codes "CityObjects") (λ objects. object no_members)
    (changed_member (codes "vertices") (λ vertices. array no_items)
    (without_appearance (member_of (codes "geometry-templates") document) document))

no_vertices : (document : Tree) → member_of (codes "vertices") (header_tree document)
    ≡ option_map (λ vertices. array no_items)
    (member_of (codes "vertices") (without_appearance (member_of (codes "geometry-templates") document) document))
no_vertices document =
    kept (codes "CityObjects") (codes "vertices") (λ objects. object no_members)
    (changed_member (codes "vertices") (λ vertices. array no_items) bare) refl
    ∙ own (codes "vertices") (λ vertices. array no_items) bare
  where
    bare : Tree
    bare = without_appearance (member_of (codes "geometry-templates") document) document

emptied_object : (there : Option Tree) → WhereThere IsObject (option_map (λ objects. object no_members) there)
emptied_object None = tt
emptied_object (Some value) = tt

emptied_array : (there : Option Tree) → WhereThere IsArray (option_map (λ vertices. array no_items) there)
emptied_array None = tt
emptied_array (Some value) = tt

pub header_grid : (document : Tree) (grid : Grid) → HasGrid (header_tree document) grid → HasGrid document grid
header_grid document grid has = (
  has.0,
  sym (other_member (codes "transform") document refl refl refl) ∙ has.1,
  has.2,
  has.3,
)

pub stays_city_json : (document : Tree) → IsCityJson document → IsCityJson (header_tree document)
stays_city_json document city_json = (
  other_member (codes "type") document refl refl refl ∙ city_json.0,
  subst (WhereThere IsObject) (sym (other_member (codes "metadata") document refl refl refl)) city_json.1,
  subst (WhereThere IsObject) (sym (other_member (codes "extensions") document refl refl refl)) city_json.2,
  subst (WhereThere IsObject) (sym (no_objects document)) (emptied_object _),
  subst (WhereThere IsArray) (sym (no_vertices document)) (emptied_array _),
)

pub is_header : (document : Tree) (grid : Grid) → IsCityJson document → IsVersion2 document → HasGrid document grid
    → IsHeader (header_tree document) grid
is_header document grid city_json version has = (
  stays_city_json document city_json,
  other_member (codes "version") document refl refl refl ∙ version,
  (has.0, other_member (codes "transform") document refl refl refl ∙ has.1, has.2, has.3),
)

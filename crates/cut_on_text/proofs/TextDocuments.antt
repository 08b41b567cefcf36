-- A whole document, cut on its compact text.
use Rattle.std.proofs.Common.{◌≡◌, ◌∙◌, ◌++◌, ℕ, List, [], ◌∷◌, Option, Some, None, length, unwrap_or, refl, sym, ap, subst, codes, append-nil, append_assoc, arith}
use Rattle.std.specs.List.{Contains}
use Rattle.city_json.proofs.CompactLaws.{compact-tells}
use Rattle.city_json.specs.Bytes.{colon, comma, open_brace, close_brace, open_bracket, close_bracket}
use Rattle.city_json.specs.Compact.{compact, quoted}
use Rattle.city_json.specs.CompactMembers.{HasParts}
use Rattle.city_json.specs.Fits.{IsDistinct}
use Rattle.city_json.specs.Members.{first_named, member_of}
use Rattle.city_json.specs.Parts.{AreParts}
use Rattle.city_json.specs.Tree.{Tree, array, object, ItemTrees, no_items, item, MemberTrees, no_members, member, member_trees}
use Rattle.city_json.specs.declared.compacting.places.MemberPlace.{MemberPlace}
use Rattle.city_grid.specs.Axes.{Triple}
use Rattle.city_grid.specs.Transform.{Grid}
use Rattle.city_feature.specs.Feature.{AreVertices, FeatureValue, item_count}
use Rattle.city_feature.specs.Header.{HasGrid, IsCityJson, IsHeader}
use Rattle.city_feature.specs.LineTexts.{SpellsVertices}
use Rattle.city_feature.specs.Shapes.{IsArray, IsObject, WhereThere}
use Rattle.city_families.specs.Boundaries.{IsBounded}
use Rattle.city_families.specs.CityObjects.{AllBelong, AreCityObjects, IsReached, LacksChild, objects_of, roots, vertices_of}
use Rattle.city_families.specs.Cut.{AreFeatures, HasFrame, IsCut, IsCuttable, IsCityDocument, header_tree}
use Rattle.cut_on_text.specs.PlacedObjects.{AreObjects, PlacedObjects}
use Rattle.cut_on_text.specs.FeatureText.{tail_text}
use Rattle.cut_on_text.specs.HeaderText.{HasHeader}
use Rattle.city_json.specs.ObjectTexts.{members_in}
use Rattle.city_families.specs.Items.{items_in}
use Rattle.city_json.specs.CompactTexts.{IsCompactOf}
use Rattle.cut_on_text.specs.VertexTexts.{HasPoints}
use Rattle.city_families.proofs.HeaderMembers.{header_grid, other_member}
use Rattle.cut_on_text.proofs.TextMembers.{three}
use Rattle.city_families.proofs.WholeDocument.{Bounds, cuttable}

pub points_there : (given : List ℕ) (members : MemberTrees) (ps : List Triple)
    → IsCompactOf given (unwrap_or (first_named (codes "vertices") members) (array no_items)) → SpellsVertices given ps
    → HasPoints members ps
points_there given members ps of (items, written, writable, vertices) =
    let value = unwrap_or (first_named (codes "vertices") members) (array no_items) in
    (items, compact-tells value (array items) of.writable writable (sym of.is ∙ written), vertices)

-- a member that may be absent
pub items_or : (found : Option Tree) (items : ItemTrees) → unwrap_or found (array no_items) ≡ array items
    → WhereThere IsArray found × (items_in found ≡ items)
items_or None items is = (tt, ap (λ v. items_in (Some v)) is)
items_or (Some value) items is = (subst IsArray (sym is) tt, ap (λ v. items_in (Some v)) is)

pub members_or : (found : Option Tree) (members : MemberTrees) → unwrap_or found (object no_members) ≡ object members
    → WhereThere IsObject found × (members_in found ≡ members)
members_or None members is = (tt, ap (λ v. members_in (Some v)) is)
members_or (Some value) members is = (subst IsObject (sym is) tt, ap (λ v. members_in (Some v)) is)

-- what stands after the vertices
tail_regroup : (a v b : List ℕ) → (comma ∷ ((a ++ colon ∷ v) ++ [])) ++ b ≡ (comma ∷ (a ++ colon ∷ [])) ++ (v ++ b)
tail_regroup a v b = ap (λ l. (comma ∷ l) ++ b) (append-nil (a ++ colon ∷ v)) ∙ simp append_assoc

pub tail_none : (found : Option Tree) (none line : List ℕ) → found ≡ None → none ≡ [] → line ≡ none ++ (close_brace ∷ [])
    → line ≡ tail_text found
tail_none found none line is empty written =
    subst (λ o. line ≡ tail_text o) (sym is) (written ∙ ap (λ l. l ++ (close_brace ∷ [])) empty)

pub tail_there : (given : List ℕ) (found : Option Tree) (value : Tree) (none line₁ line₂ line₃ : List ℕ)
    → found ≡ Some value → IsCompactOf given value → none ≡ []
    → line₁ ≡ none ++ (comma ∷ (quoted (codes "appearance") ++ colon ∷ [])) → line₂ ≡ line₁ ++ given
    → line₃ ≡ line₂ ++ (close_brace ∷ []) → line₃ ≡ tail_text found
tail_there given found value none line₁ line₂ line₃ is of empty first second third =
    three none line₁ line₂ line₃ (comma ∷ (quoted (codes "appearance") ++ colon ∷ [])) given (close_brace ∷ []) first
    second third
    ∙ (ap (λ l. l ++ ((comma ∷ (quoted (codes "appearance") ++ colon ∷ [])) ++ (given ++ (close_brace ∷ [])))) empty
    ∙ (ap (λ l. (comma ∷ (quoted (codes "appearance") ++ colon ∷ [])) ++ (l ++ (close_brace ∷ []))) of.is
    ∙ (sym (tail_regroup (quoted (codes "appearance")) (compact value) (close_brace ∷ [])) ∙ ap tail_text (sym is))))

-- ---- the frame and the header
pub document_is : (document : Tree) (objects : MemberTrees) (items : ItemTrees) → IsCityJson (header_tree document)
    → unwrap_or (member_of (codes "CityObjects") document) (object no_members) ≡ object objects
    → unwrap_or (member_of (codes "vertices") document) (array no_items) ≡ array items → AreCityObjects objects
    → IsCityDocument document
document_is document objects items city_json objects_are vertices_are are =
    let objects_in = members_or (member_of (codes "CityObjects") document) objects objects_are in
    let vertices_in = items_or (member_of (codes "vertices") document) items vertices_are in (
      (
        sym (other_member (codes "type") document refl refl refl) ∙ city_json.0,
        subst (WhereThere IsObject) (other_member (codes "metadata") document refl refl refl) city_json.1,
        subst (WhereThere IsObject) (other_member (codes "extensions") document refl refl refl) city_json.2,
        objects_in.0,
        vertices_in.0,
      ),
      subst AreCityObjects (sym objects_in.1) are,
    )

pub frame : (document value : Tree) (grid : Grid) (objects : MemberTrees) (items : ItemTrees)
    → HasHeader document value grid
    → unwrap_or (member_of (codes "CityObjects") document) (object no_members) ≡ object objects
    → unwrap_or (member_of (codes "vertices") document) (array no_items) ≡ array items → AreCityObjects objects
    → HasFrame document
frame document value grid objects items has objects_are vertices_are are =
    let (city_json, version, has_grid) = subst (λ v. IsHeader v grid) has.0 has.1 in (
      document_is document objects items city_json objects_are vertices_are are,
      sym (other_member (codes "version") document refl refl refl) ∙ version,
      (grid, header_grid document grid has_grid),
    )

abbrev pub pairs_of : MemberTrees → List (List ℕ × Tree)
pairs_of no_members = []
pairs_of (member name value others) = (name, value) ∷ pairs_of others

pub pairs_are : (members : MemberTrees) → member_trees (pairs_of members) ≡ members
pairs_are no_members = refl
pairs_are (member name value others) = ap (member name value) (pairs_are others)

pub as_many : (items : ItemTrees) (ps : List Triple) → AreVertices items ps → length ps ≡ item_count items
as_many no_items [] all = refl
as_many no_items (p ∷ ps) all = absurd all
as_many (item value others) [] all = absurd all
as_many (item value others) (p ∷ ps) all = let e = as_many others ps all.2 in omega (arith, e)

-- ---- the whole cut
pub whole : (document value : Tree) (grid : Grid) (objects : MemberTrees) (items : ItemTrees) (points : List Triple)
    (appearance : Option Tree) (features : List FeatureValue) → IsDistinct document → HasHeader document value grid
    → unwrap_or (member_of (codes "CityObjects") document) (object no_members) ≡ object objects
    → unwrap_or (member_of (codes "vertices") document) (array no_items) ≡ array items
    → appearance ≡ member_of (codes "appearance") document → AreCityObjects objects → AreVertices items points
    → (LacksChild objects → ⊥) → AllBelong objects → AreFeatures objects appearance points features
    → ((id name : List ℕ) (value : Tree) → Contains (roots objects) id → IsReached objects id name
    → first_named name objects ≡ Some value → IsBounded (length points) value)
    → IsCuttable document × IsCut document (record { value = value; grid = grid }) features
whole document value grid objects items points appearance features distinct has objects_are vertices_are look
    are_objects are_points lacks belong made bounded =
    let same : objects_of document ≡ objects =
    (members_or (member_of (codes "CityObjects") document) objects objects_are).1 in
    let same_items : vertices_of document ≡ items =
    (items_or (member_of (codes "vertices") document) items vertices_are).1 in
    let framed = frame document value grid objects items has objects_are vertices_are are_objects in
    let points_here : AreVertices (vertices_of document) points =
    subst (λ i. AreVertices i points) (sym same_items) are_points in
    let count : length points ≡ item_count (vertices_of document) = as_many (vertices_of document) points points_here in
    let belong_here : AllBelong (objects_of document) = subst AllBelong (sym same) belong in (
      cuttable document distinct (framed, (points, points_here)) (subst (λ o. LacksChild o → ⊥) (sym same) lacks)
          belong_here
          (subst (λ n. Bounds n (objects_of document)) count (subst (Bounds (length points)) (sym same) bounded)),
      (
        (
          (
            points,
            points_here,
            subst (λ o. AreFeatures o (member_of (codes "appearance") document) points features)
                (sym same) (subst (λ a. AreFeatures objects a points features) look made),
          ),
          belong_here,
        ),
        has.0,
        header_grid document grid (subst (λ v. HasGrid v grid) has.0 has.1.2),
      ),
    )

-- ---- the city objects
pub record ObjectsThere (Are : List (List ℕ × Tree) → Type 0) (value : Tree) : Type 0 where
  pub pairs : List (List ℕ × Tree)
  pub is : value ≡ object (member_trees pairs)
  pub are : Are pairs

pub listed_there : (text : List ℕ) (places : List MemberPlace) (value : Tree)
    → ((v : Tree) → IsCompactOf text v → (members : MemberTrees) × (v ≡ object members) × AreParts 1 places members)
    → IsCompactOf text value → ObjectsThere (λ pairs. IsCompactOf text (object (member_trees pairs))
    × AreParts 1 places (member_trees pairs)) value
listed_there text places value listed of =
    let (inner, is_object, placed) = listed value of in
    record {
      pairs = pairs_of inner;
      is = is_object ∙ ap object (sym (pairs_are inner));
      are = (
        subst (λ m. IsCompactOf text (object m)) (sym (pairs_are inner)) (subst (IsCompactOf text) is_object of),
        subst (AreParts 1 places) (sym (pairs_are inner)) placed,
      );
    }

pub objects_there : (objects placed : PlacedObjects) (value : Tree) → objects ≡ placed → IsCompactOf placed.text value
    → HasParts placed.text placed.places → ObjectsThere (AreObjects objects) value
objects_there objects placed value same of listed =
    subst (λ (o : PlacedObjects). ObjectsThere (AreObjects o) value) (sym same)
    (listed_there placed.text placed.places value (λ v fits. listed v fits.writable fits.within fits.is) of)

-- a document without vertices or city objects has none
pub empty_array : IsCompactOf (open_bracket ∷ close_bracket ∷ []) (array no_items)
empty_array = record { is = refl; writable = tt; distinct = tt; within = omega arith }

pub no_objects : IsCompactOf (open_brace ∷ close_brace ∷ []) (object no_members)
no_objects = record { is = refl; writable = tt; distinct = (tt, tt); within = omega arith }

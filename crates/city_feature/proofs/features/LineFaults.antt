-- Why a feature's line is refused, by the texts of its members.
use Rattle.std.proofs.Common.{◌≡◌, ◌∙◌, ◌↔◌, ◌++◌, ◌∷◌, [], ℕ, Bool, List, false, Option, Some, None, IsTrue, codes, slice_range, unwrap_or, ap, sym, subst, refl, inl, inr}
use Rattle.std.proofs.lemmas.Option.{same_Some}
use Rattle.byte_streams.specs.declared.fault.Fault.{Fault}
use Rattle.city_json.proofs.CompactLaws.{compact-tells}
use Rattle.city_json.proofs.ObjectTexts.{value_found}
use Rattle.city_json.specs.Bytes.{colon}
use Rattle.city_json.specs.Compact.{compact, quoted}
use Rattle.city_json.specs.CompactTexts.{IsCompactOf}
use Rattle.city_json.specs.Members.{first_named}
use Rattle.city_json.specs.ObjectTexts.{HasNone, IsPlacedObject, PlacedObject, SpellsThere, members_of, object_of}
use Rattle.city_json.specs.Parts.{IsPartNamed}
use Rattle.city_json.specs.Tree.{Tree, null, string, array, object, ItemTrees, MemberTrees}
use Rattle.city_json.specs.declared.compacting.places.MemberPlace.{MemberPlace}
use Rattle.city_grid.specs.Axes.{Triple}
use Rattle.city_feature.specs.Faults.{IsArrayText, RefusesMoved, RefusesVertices}
use Rattle.city_feature.specs.Feature.{HasFeatureShape}
use Rattle.city_feature.specs.FeatureLine.{RefusesFeatureLine}
use Rattle.city_feature.specs.Shapes.{IsArray, IsObject, IsText, IsThere}
use Rattle.city_feature.proofs.LineTexts.{utf8}
use Rattle.city_feature.proofs.features.FeatureVertices.{feature_refused}
use Rattle.city_feature.proofs.features.LineVertices.{not_both}

-- the type of a feature, by its text
pub is_type_here : (text : List ℕ) (value : Tree) → IsCompactOf text value
    → (text ≡ quoted (codes "CityJSONFeature")) ↔ (value ≡ string (codes "CityJSONFeature"))
is_type_here text value of = (
  λ same. compact-tells value (string (codes "CityJSONFeature")) of.writable (utf8 (codes "CityJSONFeature") refl)
      (sym of.is ∙ same),
  λ is. of.is ∙ ap compact is,
)

-- ---- members, where `null` stands for one that is not there
says_or : (there : Option Tree) (text : List ℕ) → (unwrap_or there null ≡ string text) ↔ (there ≡ Some (string text))
says_or None text = (λ same. absurd (no_text same), λ same. absurd (none same))
  where
    no_text : null ≡ string text → ⊥
    no_text same = cc

    none : None ≡ Some (string text) → ⊥
    none same = cc
says_or (Some value) text = (λ same. ap Some same, λ same. ap (λ o. unwrap_or o null) same)

pub there_or : (Shape : Tree → Type 0) → (Shape null → ⊥) → (there : Option Tree)
    → Shape (unwrap_or there null) ↔ IsThere Shape there
there_or Shape other None = (λ is. absurd (other is), λ is. absurd is)
there_or Shape other (Some value) = (λ is. is, λ is. is)

abbrev pub value_of : List ℕ → MemberTrees → Tree
value_of name members = unwrap_or (first_named name members) null

module _ (members : MemberTrees) where
  pub has_shape : (value_of (codes "type") members ≡ string (codes "CityJSONFeature"))
      → IsText (value_of (codes "id") members) → IsObject (value_of (codes "CityObjects") members)
      → IsArray (value_of (codes "vertices") members) → HasFeatureShape (object members)
  has_shape kind id objects vertices = (
    (says_or (first_named (codes "type") members) (codes "CityJSONFeature")).0 kind,
    (there_or IsText (λ is. is) (first_named (codes "id") members)).0 id,
    (there_or IsObject (λ is. is) (first_named (codes "CityObjects") members)).0 objects,
    (there_or IsArray (λ is. is) (first_named (codes "vertices") members)).0 vertices,
  )

  pub of_shape : HasFeatureShape (object members)
      → (value_of (codes "type") members ≡ string (codes "CityJSONFeature"))
      × IsText (value_of (codes "id") members) × IsObject (value_of (codes "CityObjects") members)
      × IsArray (value_of (codes "vertices") members)
  of_shape shape = (
    (says_or (first_named (codes "type") members) (codes "CityJSONFeature")).1 shape.0,
    (there_or IsText (λ is. is) (first_named (codes "id") members)).1 shape.1,
    (there_or IsObject (λ is. is) (first_named (codes "CityObjects") members)).1 shape.2,
    (there_or IsArray (λ is. is) (first_named (codes "vertices") members)).1 shape.3,
  )

-- what a feature has is wanting
pub unshaped : (members : MemberTrees) (P : Type 0) (b : Bool) → b ≡ false → IsTrue b ↔ P
    → (HasFeatureShape (object members) → P) → ¬ HasFeatureShape (object members)
unshaped all P b is_false test part = λ shape. not_both b is_false (test.1 (part shape))

pub no_vertices_there : (there : PlacedObject) → HasNone (quoted (codes "vertices") ++ colon ∷ []) there
    → ¬ HasFeatureShape (object_of there)
no_vertices_there there none = λ shape. subst (IsThere IsArray) (none (codes "vertices") refl) shape.3

-- what stands in the part of the vertices
module _ (there : PlacedObject) (placed : IsPlacedObject there) (part : MemberPlace)
    (here : IsPartNamed there.text there.parts (quoted (codes "vertices") ++ colon ∷ []) part) (given : List ℕ)
    (lies : given ≡ slice_range there.text part.value part.end) (b : Bool)
    (test : (value : Tree) → IsCompactOf given value → IsTrue b ↔ IsArray value) where
  vertices_value : (value : Tree) × (first_named (codes "vertices") (members_of there) ≡ Some value)
      × IsCompactOf given value
  vertices_value = value_found there placed (quoted (codes "vertices") ++ colon ∷ []) part here given lies
      (codes "vertices") (utf8 (codes "vertices") refl) refl

  pub other_vertices : b ≡ false → ¬ HasFeatureShape (object_of there)
  other_vertices is_false = λ shape.
      let (value, is, of) = vertices_value in
      not_both b is_false ((test value of).1 (subst (IsThere IsArray) is shape.3))

  pub array_value : IsTrue b → IsArray (value_of (codes "vertices") (members_of there))
  array_value holds =
      let (value, is, of) = vertices_value in
      subst (λ o. IsArray (unwrap_or o null)) (sym is) ((test value of).0 holds)

array_there : (there : Option Tree) → IsThere IsArray there → (items : ItemTrees) × (there ≡ Some (array items))
array_there (Some (array items)) is = (items, refl)
array_there other is = absurd is

-- ---- the vertices
module _ (there : PlacedObject) (placed : IsPlacedObject there) (shape : HasFeatureShape (object_of there))
    (part : MemberPlace) (here : IsPartNamed there.text there.parts (quoted (codes "vertices") ++ colon ∷ []) part) where
  abbrev text : List ℕ
  text = slice_range there.text part.value part.end

  items_here : (items : ItemTrees) × (first_named (codes "vertices") (members_of there) ≡ Some (array items))
      × IsCompactOf text (array items)
  items_here =
      let name = codes "vertices" in
      let (value, is, of) = value_found there placed (quoted name ++ colon ∷ []) part here text refl name
      (utf8 name refl) refl in
      let (items, first) = array_there (first_named name (members_of there)) shape.3 in
      (items, first, subst (IsCompactOf text) (same_Some _ _ (sym is ∙ first)) of)

  pub array_text : IsArrayText text
  array_text = let (items, first, of) = items_here in (items, of)

  pub vertices_refused : (k : Triple) (fault : Fault) → RefusesVertices fault text → RefusesMoved k fault (object_of there)
  vertices_refused k fault refused =
      let (items, first, of) = items_here in
      inl (feature_refused (object_of there) items fault shape first (refused items of))

-- ---- the line
module _ (k : Triple) (fault : Fault) (bytes : List ℕ) (there : PlacedObject) (spells : SpellsThere bytes there) where
  pub refuses_line : RefusesMoved k fault (object_of there) → RefusesFeatureLine k fault bytes
  refuses_line (inl no_feature) = inr (inl (object_of there, spells.0, spells.1, no_feature))
  refuses_line (inr (same, (ps, is, leaves))) =
      inr (inr (same, (record { value = object_of there; vertices = ps }, (spells.0, spells.1, is), leaves)))

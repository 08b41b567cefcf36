-- A feature with other vertices is a feature.
use Rattle.std.proofs.Common.{◌≡◌, ◌∙◌, ℕ, suc, sym, ap, refl, subst, Bool, true, false, if◌then◌else◌, List, [], ◌∷◌, length, All, Some, None, codes, bytes_eq}
use Rattle.std.proofs.lemmas.Slice.Eq.{bytes_eq-Decides}
use Rattle.city_json.specs.Members.{first_named, member_of}
use Rattle.city_json.specs.Tree.{Tree, null, boolean, number, string, array, object, ItemTrees, no_items, item, item_trees, MemberTrees, no_members, member}
use Rattle.byte_streams.specs.declared.fault.Fault.{Fault}
use Rattle.byte_streams.specs.declared.fault.Fault.TheVariants.{VertexRange}
use Rattle.city_grid.specs.Axes.{Triple, IsInRange}
use Rattle.city_grid.specs.Vertex.{vertex_tree}
use Rattle.city_feature.specs.Changes.{with_named, with_member}
use Rattle.city_feature.specs.Feature.{AreReadAgain, AreVertices, HasItems, HasVertices, IsFeature, RefusesMove, item_count, moved_vertices, vertices_tree}
use Rattle.city_feature.specs.Shapes.{IsArray, IsObject, IsText, IsThere}
use Rattle.city_feature.specs.Values.{FeatureJson, feature_value}
use Rattle.std.proofs.Common.{map}

module _ (name : List ℕ) (x : Tree) where
  this_named : (members : MemberTrees) → first_named name (with_named name x members) ≡ Some x
  this_named no_members = ap (λ b. if b then Some x else None) ((bytes_eq-Decides name name).1 refl)
  this_named (member other value others) = told (bytes_eq other name) refl (this_named others)
    where
      told : (b : Bool) → bytes_eq other name ≡ b → first_named name (with_named name x others) ≡ Some x
          → first_named name (if b then member other x others else member other value (with_named name x others))
          ≡ Some x
      told true is later = ap (λ b. if b then Some x else first_named name others) is
      told false is later = ap (λ b. if b then Some value else first_named name (with_named name x others)) is ∙ later

  module _ (another : List ℕ) (apart : bytes_eq name another ≡ false) where
    other_named : (members : MemberTrees)
        → first_named another (with_named name x members) ≡ first_named another members
    other_named no_members = ap (λ b. if b then Some x else None) apart
    other_named (member other value others) =
        told (bytes_eq other name) (bytes_eq-Decides other name).0 (other_named others)
      where
        told : (b : Bool) → (b ≡ true → other ≡ name)
            → first_named another (with_named name x others) ≡ first_named another others
            → first_named another (if b then member other x others else member other value (with_named name x others))
            ≡ (if bytes_eq other another then Some value else first_named another others)
        told true is later =
            let away : bytes_eq other another ≡ false = ap (λ y. bytes_eq y another) (is refl) ∙ apart in
            ap (λ b. if b then Some x else first_named another others) away
            ∙ sym (ap (λ b. if b then Some value else first_named another others) away)
        told false is later = ap (λ rest. if bytes_eq other another then Some value else rest) later

    pub other_member : (value : Tree) → member_of another (with_member name x value) ≡ member_of another value
    other_member null = refl
    other_member (boolean b) = refl
    other_member (number text) = refl
    other_member (string text) = refl
    other_member (array items) = refl
    other_member (object members) = other_named members

  this_member : (value old : Tree) → member_of name value ≡ Some old
      → member_of name (with_member name x value) ≡ Some x
  this_member null old is = cc
  this_member (boolean b) old is = cc
  this_member (number text) old is = cc
  this_member (string text) old is = cc
  this_member (array items) old is = cc
  this_member (object members) old is = this_named members

pub still_feature : (value : Tree) (ps qs : List Triple) → IsFeature value ps → AreReadAgain qs
    → IsFeature (with_member (codes "vertices") (vertices_tree qs) value) qs
still_feature value ps qs feature again =
    let name = codes "vertices" in
    let x = vertices_tree qs in
    let (items, are, vertices) = feature.1 in
    let here = this_member name x value (array items) are in (
      (
        other_member name x (codes "type") refl value ∙ feature.0.0,
        subst (IsThere IsText) (sym (other_member name x (codes "id") refl value)) feature.0.1,
        subst (IsThere IsObject) (sym (other_member name x (codes "CityObjects") refl value)) feature.0.2,
        subst (IsThere IsArray) (sym here) tt,
      ),
      (item_trees (map vertex_tree qs), here, again),
    )

count_is : (items : ItemTrees) (ps : List Triple) → AreVertices items ps → item_count items ≡ length ps
count_is no_items [] are = refl
count_is no_items (p ∷ ps) are = absurd are
count_is (item value others) [] are = absurd are
count_is (item value others) (p ∷ ps) are = ap suc (count_is others ps are.2)

pub has_items : (value : Tree) (ps : List Triple) (count : ℕ) → HasVertices value ps → count ≡ length ps
    → IsThere (HasItems count) (member_of (codes "vertices") value)
has_items value ps count (items, are, vertices) same =
    subst (IsThere (HasItems count)) (sym are) (count_is items ps vertices ∙ sym same)

pub move_refused : (fault : Fault) (feature : FeatureJson) (k : Triple) → (fault ≡ VertexRange)
    × (¬ All IsInRange (moved_vertices feature.vertices k)) → RefusesMove fault (feature_value feature) k
move_refused fault feature k refused =
    subst (λ f. RefusesMove f (feature_value feature) k) (sym refused.0) refused.1

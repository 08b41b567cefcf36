-- A feature put together is the one that its family begins.
use Rattle.std.proofs.Common.{◌≡◌, ◌<◌, ℕ, zero, suc, List, [], ◌∷◌, Option, Some, length, map, sym, refl, ap, subst, ◌∙◌, arith}
use Rattle.std.proofs.lemmas.List.{length-map}
use Rattle.std.specs.List.{All, AllByRecursion}
use Rattle.std.specs.Prelude.{codes}
use Rattle.city_json.specs.Members.{member_of}
use Rattle.city_json.specs.Tree.{Tree, item_trees, member_trees, members_tree, named_tree, tree}
use Rattle.byte_streams.specs.declared.fault.Fault.{Fault}
use Rattle.byte_streams.specs.declared.fault.Fault.TheVariants.{Memory}
use Rattle.city_json.specs.declared.json.Json.{Json}
use Rattle.city_json.specs.declared.json.Member.{Member}
use Rattle.city_grid.specs.Axes.{Triple}
use Rattle.city_grid.specs.Vertex.{vertex_tree}
use Rattle.city_feature.proofs.OneFeature.{feature_taken, vertices_of_value}
use Rattle.city_feature.specs.Feature.{AreReadAgain, HasFeatureShape, IsFeature, RefusesFeature, vertices_tree}
use Rattle.city_feature.specs.Values.{FeatureJson, feature_value}
use Rattle.city_families.specs.Assembled.{IsAssembled}
use Rattle.city_families.specs.Chosen.{named_tree_at, named_at}
use Rattle.city_families.specs.Cut.{IsFeatureOf, feature_tree}
use Rattle.city_families.specs.Items.{values}
use Rattle.city_families.specs.Places.{IsFamily, name_at}
use Rattle.city_families.specs.Points.{SamePoints}
use Rattle.city_families.proofs.FeatureParts.{all_map, chosen_are_those, place_inside, places_inside}

-- ---- the value of a feature
module _ (json : Tree) (id : List ℕ) (objects : List (List ℕ × Tree)) (vertices : Tree) (appearance : Option Tree)
    (own : List Triple) (is : json ≡ feature_tree id objects vertices appearance)
    (written : vertices ≡ vertices_tree own) (again : AreReadAgain own) where
  at_vertices : member_of (codes "vertices") json ≡ Some (vertices_tree own)
  at_vertices = ap (member_of (codes "vertices")) is ∙ ap Some written

  shape : HasFeatureShape json
  shape = subst HasFeatureShape (sym (is ∙ ap (λ v. feature_tree id objects v appearance) written)) (refl, tt, tt, tt)

  is_feature : IsFeature json own
  is_feature = (shape, (item_trees (map vertex_tree own), at_vertices, again))

  pub own_vertices : (ps : List Triple) → IsFeature json ps → ps ≡ own
  own_vertices ps feature = vertices_of_value json ps own feature is_feature

  pub only_memory : (fault : Fault) → RefusesFeature fault json → fault ≡ Memory
  only_memory fault refused = feature_taken json own is_feature fault refused

pub value_at : (P : Tree → Type 0) (objects : List (List ℕ × Tree)) (k : ℕ)
    → AllByRecursion P (values (member_trees objects)) → k < length objects → P (named_at objects k).1
value_at P [] k all below = absurd (omega (arith, below))
value_at P (m ∷ ms) zero all below = all.0
value_at P (m ∷ ms) (suc k) all below = value_at P ms k all.1 (omega (arith, below))

pub chosen_all : (P : Tree → Type 0) (objects : List (List ℕ × Tree)) (root : ℕ) (places : List ℕ)
    → IsFamily (member_trees objects) root places → AllByRecursion P (values (member_trees objects))
    → AllByRecursion (λ named. P named.1) (map (named_at objects) places)
chosen_all P objects root places family all =
    all_map (λ named. P named.1) (named_at objects) places
    (λ k c. value_at P objects k all (place_inside objects root places k family c))

pub member_places : (objects : List Member) (root : ℕ) (places : List ℕ) → IsFamily (members_tree objects) root places
    → All (λ k. k < length objects) places
member_places objects root places family = λ i d below. let inside =
    places_inside (map named_tree objects) root places family i d below in
    omega (arith, inside, length-map objects named_tree)

-- ---- the whole feature
pub feature_is : (objects : List Member) (root : ℕ) (places : List ℕ) (points : List Triple)
    (own_objects : List (List ℕ × Tree)) (vertices : Tree) (appearance : Option Tree) (json : Json) (f : FeatureJson)
    → IsFamily (members_tree objects) root places
    → IsAssembled points (map (named_tree_at objects) places) own_objects vertices
    → tree json ≡ feature_tree (name_at (members_tree objects) root) own_objects vertices appearance
    → f.json ≡ json
    → IsFeature (tree json) f.vertices
    → IsFeatureOf (members_tree objects) appearance points (name_at (members_tree objects) root) (feature_value f)
feature_is objects root places points own_objects vertices appearance json f family assembled made same feature =
    let own : f.vertices ≡ assembled.own = own_vertices (tree json) (name_at (members_tree objects) root) own_objects
    vertices appearance assembled.own made assembled.written assembled.again f.vertices feature in
    record {
      chosen = map (named_tree_at objects) places;
      objects = own_objects;
      reached = chosen_are_those (map named_tree objects) root places family;
      same_points = subst (λ ps. SamePoints points (map (named_tree_at objects) places) ps own_objects) (sym own)
          assembled.same_points;
      is = ap tree same ∙ (made ∙ ap (λ v. feature_tree (name_at (members_tree objects) root) own_objects v appearance)
          (assembled.written ∙ ap vertices_tree (sym own)));
    }

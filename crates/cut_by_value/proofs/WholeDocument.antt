-- What is known of a document's objects and vertices, said of the document.
use Rattle.std.proofs.Common.{◌≡◌, ◌⊎◌, inl, inr, ℕ, List, [], ◌∷◌, Option, Some, length, sym, refl, ap, subst, ◌∙◌, arith}
use Rattle.std.specs.List.{AllByRecursion, Contains}
use Rattle.std.specs.Prelude.{codes}
use Rattle.city_json.specs.Fits.{IsDistinct}
use Rattle.city_json.specs.Members.{first_named, member_of}
use Rattle.city_json.specs.Tree.{Tree, items_tree, members_tree}
use Rattle.byte_streams.specs.declared.fault.Fault.{Fault}
use Rattle.byte_streams.specs.declared.fault.Fault.TheVariants.{ChildMissing, Orphan, BoundaryIndex, Memory}
use Rattle.city_json.specs.declared.json.Json.{Json}
use Rattle.city_json.specs.declared.json.Member.{Member}
use Rattle.city_grid.specs.Axes.{Triple}
use Rattle.city_feature.specs.Feature.{AreVertices, FeatureValue, item_count}
use Rattle.city_families.specs.Boundaries.{IsBounded}
use Rattle.city_families.specs.CityObjects.{AllBelong, IsReached, LacksChild, objects_of, roots, vertices_of}
use Rattle.city_families.specs.Cut.{AreBounded, AreFeatures, HasFeatures, IsCuttable, HasValidVertices, RefusesCut}
use Rattle.city_families.specs.Families.{RefusesFamilies}
use Rattle.city_families.specs.Items.{values}
use Rattle.city_families.proofs.WholeDocument.{Bounds, cuttable, no_orphan}

pub counted : (values : List Json) → item_count (items_tree values) ≡ length values
counted [] = refl
counted (v ∷ vs) = let e = counted vs in omega (arith, e)

pub families_refused : (document : Tree) (fault : Fault) → HasValidVertices document
    → RefusesFamilies fault (objects_of document) → RefusesCut fault document
families_refused document ChildMissing grid refused = (grid, refused)
families_refused document Orphan grid refused = (grid, refused.0, refused.1)
families_refused document Memory grid refused = grid
families_refused document other grid refused = absurd refused

pub features_refused : (document : Tree) (fault : Fault) → HasValidVertices document
    → (LacksChild (objects_of document) → ⊥) → AllBelong (objects_of document) → (fault ≡ Memory)
    ⊎ ((fault ≡ BoundaryIndex) × (AreBounded document → ⊥)) → RefusesCut fault document
features_refused document fault grid lacks belong (inl memory) = subst (λ f. RefusesCut f document) (sym memory) grid
features_refused document fault grid lacks belong (inr wrong) =
    subst (λ f. RefusesCut f document) (sym wrong.0) (grid, lacks, no_orphan (objects_of document) belong, wrong.1)

module _ (document : Tree) (objects : List Member) (vertices : List Json)
    (are_objects : members_tree objects ≡ objects_of document)
    (are_vertices : items_tree vertices ≡ vertices_of document) where
  count : length vertices ≡ item_count (vertices_of document)
  count = sym (counted vertices) ∙ ap item_count are_vertices

  pub has_features_of : (appearance : Option Tree) (features : List FeatureValue)
      → appearance ≡ member_of (codes "appearance") document → HasValidVertices document
      → AllBelong (members_tree objects) → ((points : List Triple) → AreVertices (items_tree vertices) points
      → AreFeatures (members_tree objects) appearance points features) → HasFeatures document features
  has_features_of appearance features is grid belong made =
      let points = grid.1.0 in (
        (
          points,
          grid.1.1,
          subst (λ a. AreFeatures (objects_of document) a points features) is
              (subst (λ ms. AreFeatures ms appearance points features) are_objects
              (made points (subst (λ vs. AreVertices vs points) (sym are_vertices) grid.1.1))),
        ),
        subst AllBelong are_objects belong,
      )

  pub is_cuttable : IsDistinct document → HasValidVertices document → (LacksChild (members_tree objects) → ⊥)
      → AllBelong (members_tree objects)
      → ((id name : List ℕ) (value : Tree) → Contains (roots (members_tree objects)) id
      → IsReached (members_tree objects) id name → first_named name (members_tree objects) ≡ Some value
      → IsBounded (length vertices) value)
      → IsCuttable document
  is_cuttable distinct grid lacks belong bounded =
      cuttable document distinct grid (subst (λ ms. LacksChild ms → ⊥) are_objects lacks)
      (subst AllBelong are_objects belong)
      (subst (λ n. Bounds n (objects_of document)) count (subst (Bounds (length vertices)) are_objects bounded))

  pub is_refused : (fault : Fault) → HasValidVertices document → (LacksChild (members_tree objects) → ⊥)
      → AllBelong (members_tree objects)
      → ((points : List Triple) → AreVertices (items_tree vertices) points → (fault ≡ Memory)
      ⊎ ((fault ≡ BoundaryIndex) × (AllByRecursion (IsBounded (length vertices)) (values (members_tree objects))
      → ⊥)))
      → RefusesCut fault document
  is_refused fault grid lacks belong refused =
      features_refused document fault grid (subst (λ ms. LacksChild ms → ⊥) are_objects lacks)
      (subst AllBelong are_objects belong)
      (elim (refused grid.1.0 (subst (λ vs. AreVertices vs grid.1.0) (sym are_vertices) grid.1.1)) [
        | inl memory ↦ inl memory
        | inr wrong ↦ inr (
          wrong.0,
          λ all. wrong.1
              (subst (λ n. AllByRecursion (IsBounded n) (values (members_tree objects))) (sym count)
              (subst (λ ms. AllByRecursion (IsBounded (item_count (vertices_of document))) (values ms)) (sym are_objects)
              all)),
        )
      ])

-- City objects whose texts are held without the numbers of their leaves, and the texts of the features that are made of
-- them.
use Rattle.std.specs.Prelude.{◌≡◌, ◌≤◌, ◌<◌, ◌+◌, ◌++◌, ◌∷◌, [], ℕ, List, All, length, map, slice_index_or, slice_range}
use Rattle.std.specs.Fmt.{decimal}
use Rattle.std.specs.List.{flat_map}
use Rattle.city_json.specs.Bytes.{colon}
use Rattle.city_json.specs.Compact.{compact, quoted}
use Rattle.city_json.specs.Tree.{Tree}
use Rattle.city_families.specs.Boundaries.{IsBounded, boundaries, relabelled_object}
use Rattle.city_families.specs.Chosen.{named_at}
use Rattle.city_families.specs.Leaves.{leaves}

-- a leaf: where it belongs in a text that has no leaves, and the vertex that it names
pub record LeafPlace : Type 0 where
  pub at : ℕ
  pub vertex : ℕ

-- where an object begins: its text, of which its name with its marks comes first; where that name ends; its first leaf;
-- and the first leaf of its geometries, which are numbered before its addresses
pub record SkeletonPlace : Type 0 where
  pub text : ℕ
  pub name : ℕ
  pub leaves : ℕ
  pub split : ℕ

-- the texts of objects, one after another, and their leaves; after the last object's place stands one more
pub record SkeletonTexts : Type 0 where
  pub text : List ℕ
  pub leaves : List LeafPlace
  pub places : List SkeletonPlace

abbrev pub no_place : SkeletonPlace
no_place = record { text = 0; name = 0; leaves = 0; split = 0 }

abbrev pub place_at : SkeletonTexts → ℕ → SkeletonPlace
place_at skeletons k = slice_index_or skeletons.places k no_place

abbrev pub leaves_at : SkeletonTexts → ℕ → List LeafPlace
leaves_at skeletons k = slice_range skeletons.leaves (place_at skeletons k).leaves (place_at skeletons (k + 1)).leaves

-- the name of an object, with its marks
abbrev pub id_at : SkeletonTexts → ℕ → List ℕ
id_at skeletons k = slice_range skeletons.text (place_at skeletons k).text (place_at skeletons k).name

-- the vertices that an object names, in the order in which they are numbered
abbrev pub uses_at : SkeletonTexts → ℕ → List ℕ
uses_at skeletons k =
    map (λ leaf. leaf.vertex) (slice_range skeletons.leaves (place_at skeletons k).split (place_at skeletons (k + 1)).leaves)
    ++ map (λ leaf. leaf.vertex) (slice_range skeletons.leaves (place_at skeletons k).leaves (place_at skeletons k).split)

-- the text from one place to another, in which each of these leaves has the label of its vertex
abbrev pub woven : List ℕ → ℕ → ℕ → List LeafPlace → (ℕ → List ℕ) → List ℕ
woven text from end [] label = slice_range text from end
woven text from end (leaf ∷ others) label =
    slice_range text from leaf.at ++ (label leaf.vertex ++ woven text leaf.at end others label)

-- the text of an object, its name before it, with these labels
abbrev pub skeleton_text_at : SkeletonTexts → (ℕ → List ℕ) → ℕ → List ℕ
skeleton_text_at skeletons label k =
    woven skeletons.text (place_at skeletons k).text (place_at skeletons (k + 1)).text (leaves_at skeletons k) label

-- the object at this place is this one, with boundaries that name vertices below `count`
pub record IsSkeleton (count : ℕ) (skeletons : SkeletonTexts) (k : ℕ) (named : List ℕ × Tree) : Type 0 where
  pub bounded : IsBounded count named.1
  pub name : id_at skeletons k ≡ quoted named.0
  pub uses : flat_map leaves (boundaries named.1) ≡ uses_at skeletons k
  pub after_first : (place_at skeletons k).leaves ≤ (place_at skeletons k).split
  pub before_last : (place_at skeletons k).split ≤ (place_at skeletons (k + 1)).leaves
  pub within : All (λ leaf. leaf.vertex < count) (leaves_at skeletons k)
  pub is : (change : List ℕ → List ℕ) → quoted named.0 ++ colon ∷ compact (relabelled_object change named.1)
      ≡ skeleton_text_at skeletons (λ vertex. change (decimal vertex)) k

-- and each is
pub record AreSkeletons (count : ℕ) (skeletons : SkeletonTexts) (pairs : List (List ℕ × Tree)) : Type 0 where
  pub long : length skeletons.places ≡ length pairs + 1
  pub each : (k : ℕ) → k < length pairs → IsSkeleton count skeletons k (named_at pairs k)

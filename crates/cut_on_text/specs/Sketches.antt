-- Objects that are copied without their leaves, which are noted.
use Rattle.std.specs.Prelude.{◌≡◌, ◌≤◌, ◌++◌, ◌+◌, ◌∷◌, [], ℕ, List, length, map, slice_range}
use Rattle.std.specs.Fmt.{decimal}
use Rattle.std.specs.List.{flat_map}
use Rattle.city_json.specs.Bytes.{colon}
use Rattle.city_json.specs.Compact.{compact, quoted}
use Rattle.city_json.specs.Tree.{Tree}
use Rattle.city_families.specs.Boundaries.{IsBounded, boundaries, relabelled_object}
use Rattle.city_families.specs.Leaves.{leaves}
use Rattle.cut_on_text.specs.Skeletons.{LeafPlace, SkeletonPlace, woven}

-- a leaf that belongs at the end of a line was noted
abbrev pub LeafNoted : List LeafPlace → List ℕ → List LeafPlace → List ℕ → ℕ → Type 0
LeafNoted noted line noted' line' vertex =
    (line' ≡ line) × (noted' ≡ noted ++ record { at = length line; vertex = vertex } ∷ [])

abbrev pub leaf_vertices : List LeafPlace → List ℕ
leaf_vertices noted = map (λ leaf. leaf.vertex) noted

-- the leaves stand in order from one place to another
abbrev pub ArePlaced : ℕ → ℕ → List LeafPlace → Type 0
ArePlaced from end [] = from ≤ end
ArePlaced from end (leaf ∷ others) = (from ≤ leaf.at) × ArePlaced leaf.at end others

-- A text was written after another, and leaves were noted: the text is the one that `own` gives for the texts of
-- leaves. Of the vertices those from the leaf `split` on are named first.
pub record IsNoted (noted : List LeafPlace) (line : List ℕ) (split : ℕ) (noted' : List LeafPlace) (line' uses : List ℕ) (own : (List ℕ → List ℕ) → List ℕ) : Type 0 where
  pub text : List ℕ
  pub first : List LeafPlace
  pub second : List LeafPlace
  pub written : line' ≡ line ++ text
  pub more : noted' ≡ noted ++ (first ++ second)
  pub split_is : split ≡ length noted + length first
  pub placed : ArePlaced (length line) (length line') (first ++ second)
  pub named : uses ≡ leaf_vertices second ++ leaf_vertices first
  pub is : (change : List ℕ → List ℕ) → own change
      ≡ woven line' (length line) (length line') (first ++ second) (λ vertex. change (decimal vertex))

-- an object was written after a line and its leaves were noted, from `start` on
pub record IsSketch (count : ℕ) (noted : List LeafPlace) (line : List ℕ) (start : SkeletonPlace) (noted' : List LeafPlace) (line' : List ℕ) (named : List ℕ × Tree) : Type 0 where
  pub bounded : IsBounded count named.1
  pub text : start.text ≡ length line
  pub first : start.leaves ≡ length noted
  pub order : start.text ≤ start.name
  pub within : start.name ≤ length line'
  pub name : slice_range line' start.text start.name ≡ quoted named.0
  pub object : IsNoted noted line start.split noted' line' (flat_map leaves (boundaries named.1))
      (λ change. quoted named.0 ++ colon ∷ compact (relabelled_object change named.1))

-- The texts of features that are made of the skeletons of city objects, of the texts of vertices, and of who is whose
-- child.
use Rattle.std.specs.Prelude.{◌≡◌, ◌<◌, ◌+◌, ◌-◌, ◌^◌, ◌++◌, ◌∷◌, [], ◌==◌, ◌&&◌, ◌||◌, not, suc, zero, true, false, ℕ, Bool, List, All, codes, get_or, if◌then◌else◌, length, map, slice_index, slice_range}
use Rattle.std.specs.Fmt.{decimal}
use Rattle.std.specs.List.{filter, flat_map, list_any}
use Rattle.city_json.specs.Bytes.{close_bracket, comma, open_bracket}
use Rattle.city_json.specs.Fits.{IsDistinct}
use Rattle.city_json.specs.Tree.{Tree, member_trees, object}
use Rattle.city_json.specs.Writable.{IsWritable}
use Rattle.city_grid.specs.Axes.{IsInRange, Triple}
use Rattle.cut_on_text.specs.FeatureText.{middle_text}
use Rattle.city_families.specs.Places.{IsGraph}
use Rattle.cut_on_text.specs.Rosters.{RosterState}
use Rattle.city_families.specs.Search.{InRange}
use Rattle.cut_on_text.specs.Skeletons.{AreSkeletons, SkeletonTexts, id_at, skeleton_text_at, uses_at}
use Rattle.cut_on_text.specs.VertexTexts.{StandAt}

-- the numbers below `count`, in their order
abbrev pub numbers_below : ℕ → List ℕ
numbers_below zero = []
numbers_below (suc k) = numbers_below k ++ k ∷ []

-- each number once, where it comes first, after those that came before
abbrev pub first_uses : List ℕ → List ℕ → List ℕ
first_uses before [] = before
first_uses before (k ∷ ks) =
    if list_any (λ x. x == k) before then first_uses before ks else first_uses (before ++ k ∷ []) ks

-- where a number comes first
abbrev pub place_in : List ℕ → ℕ → ℕ
place_in [] k = 0
place_in (x ∷ xs) k = if x == k then 0 else suc (place_in xs k)

-- `b` is a child of `a`
abbrev pub follows : List (List ℕ) → ℕ → ℕ → Bool
follows [] a b = false
follows (row ∷ rows) zero b = list_any (λ x. x == b) row
follows (row ∷ rows) (suc a) b = follows rows a b

-- one comes from `a` to `b` through none but the first `count` things (Warshall's algorithm)
abbrev pub passes : List (List ℕ) → ℕ → ℕ → ℕ → Bool
passes graph zero a b = (a == b) || follows graph a b
passes graph (suc k) a b = passes graph k a b || (passes graph k a k && passes graph k k b)

-- what is reached from a thing, in order
abbrev pub family : List (List ℕ) → ℕ → List ℕ
family graph root = filter (passes graph (length graph) root) (numbers_below (length graph))

-- texts with a comma before each but the first
abbrev pub more_listed : List (List ℕ) → List ℕ
more_listed [] = []
more_listed (text ∷ texts) = comma ∷ (text ++ more_listed texts)

abbrev pub listed : List (List ℕ) → List ℕ
listed [] = []
listed (text ∷ texts) = text ++ more_listed texts

-- what stands before a text of this number in a list
abbrev pub comma_before : ℕ → List ℕ
comma_before zero = []
comma_before (suc k) = comma ∷ []

-- what features are made of: the text and the starts of vertices are as in `StandAt`
pub record Makings : Type 0 where
  pub skeletons : SkeletonTexts
  pub vertices : List ℕ
  pub starts : List ℕ
  pub graph : List (List ℕ)

-- the text of a vertex, in the text of all of them, by where they begin
abbrev pub vertex_in : List ℕ → List ℕ → ℕ → List ℕ
vertex_in text starts k = slice_range text (slice_index starts k) (slice_index starts (k + 1) - 1)

abbrev pub vertex_at : Makings → ℕ → List ℕ
vertex_at makings = vertex_in makings.vertices makings.starts

-- the vertices of the feature that the object at a place begins, by first use
abbrev pub order_of : Makings → ℕ → List ℕ
order_of makings root = first_uses [] (flat_map (uses_at makings.skeletons) (family makings.graph root))

-- the text of a feature up to its vertices: that of the object `root`, of these objects, and of these vertices
abbrev pub feature_text : SkeletonTexts → (ℕ → List ℕ) → ℕ → List ℕ → List ℕ → List ℕ
feature_text skeletons vertex root places order =
    codes "{\"type\":\"CityJSONFeature\",\"id\":" ++ (id_at skeletons root ++ (codes ",\"CityObjects\":{"
    ++ (listed (map (skeleton_text_at skeletons (λ k. decimal (place_in order k))) places)
    ++ (middle_text ++ (open_bracket ∷ (listed (map vertex order) ++ close_bracket ∷ []))))))

-- of the feature that the object at a place begins
abbrev pub made_text : Makings → ℕ → List ℕ
made_text makings root =
    feature_text makings.skeletons (vertex_at makings) root (family makings.graph root) (order_of makings root)

-- the objects without parents
abbrev pub beginners : List Bool → List ℕ
beginners parents = filter (λ k. not (get_or parents k true)) (numbers_below (length parents))

-- the makings are those of a document's objects and vertices
pub record AreMakings (makings : Makings) : Type 0 where
  pub pairs : List (List ℕ × Tree)
  pub points : List Triple
  pub skeletons : AreSkeletons (length points) makings.skeletons pairs
  pub stand : StandAt makings.vertices makings.starts points
  pub few : length points < 2 ^ 64
  pub range : All IsInRange points
  pub writable : IsWritable (object (member_trees pairs))
  pub distinct : IsDistinct (object (member_trees pairs))
  pub linked : IsGraph (member_trees pairs) makings.graph

-- texts that can be made, with room for all numbers
pub record CanMake (makings : Makings) (roots : List ℕ) (found order : RosterState) : Type 0 where
  pub places : length makings.skeletons.places ≡ length makings.graph + 1
  pub within : InRange makings.graph (length makings.graph)
  pub inside : All (λ root. root < length makings.graph) roots
  pub leaves : All (λ leaf. leaf.vertex < order.count) makings.skeletons.leaves
  pub objects : found.count ≡ length makings.graph
  pub vertices : order.count ≡ length makings.starts - 1
  pub document : AreMakings makings

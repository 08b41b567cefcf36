-- City objects by their places in the document.
use Rattle.std.specs.Prelude.{◌≡◌, ◌↔◌, ◌<◌, List, [], ℕ, Some, Contains, All, length, slice_get, slice_index_or}
use Rattle.std.specs.List.Sorted.{IsStrictlyIncreasing}
use Rattle.city_json.specs.Members.{names}
use Rattle.city_json.specs.Tree.{Tree, string, MemberTrees}
use Rattle.city_families.specs.CityObjects.{IsReached, children}
use Rattle.city_families.specs.Items.{values}

-- the places, among the names, of those that the values name
pub record ArePlaced (all : List (List ℕ)) (named : List Tree) (places : List ℕ) : Type 0 where
  pub sound : (b : ℕ) → Contains places b → (name : List ℕ) × (slice_get all b ≡ Some name) × Contains named (string name)
  pub complete : (name : List ℕ) → Contains named (string name) → (b : ℕ) × Contains places b × (slice_get all b ≡ Some name)

-- for each object the places of its children
pub record IsGraph (objects : MemberTrees) (graph : List (List ℕ)) : Type 0 where
  pub long : length graph ≡ length (names objects)
  pub rows : (a : ℕ) (row : List ℕ) (city_object : Tree) → slice_get graph a ≡ Some row → slice_get (values objects) a ≡ Some city_object → ArePlaced (names objects) (children city_object) row

abbrev pub name_at : MemberTrees → ℕ → List ℕ
name_at objects place = slice_index_or (names objects) place []

-- the object at the place `k` is reached from the one at the place `root`
abbrev pub ReachesPlace : MemberTrees → ℕ → ℕ → Type 0
ReachesPlace objects root k = IsReached objects (name_at objects root) (name_at objects k)

-- the places of what the object at the place `root` reaches, in order
pub record IsFamily (objects : MemberTrees) (root : ℕ) (places : List ℕ) : Type 0 where
  pub root_inside : root < length (names objects)
  pub rises : IsStrictlyIncreasing places
  pub inside : All (λ k. k < length (names objects)) places
  pub reached : (k : ℕ) → k < length (names objects) → Contains places k ↔ ReachesPlace objects root k

-- The families of a document's objects, and the search for them.
use Rattle.std.specs.Prelude.{◌≡◌, ◌≢◌, ◌<◌, ◌⊎◌, ◌↔◌, ℕ, Bool, true, false, List, Option, Some, None, Contains, All, get_or, length, map, slice_index}
use Rattle.city_json.specs.Fits.{HasDistinctNames}
use Rattle.city_json.specs.Tree.{MemberTrees, Tree, member_trees}
use Rattle.byte_streams.specs.declared.fault.Fault.{Fault}
use Rattle.byte_streams.specs.declared.fault.Fault.TheVariants.{ChildMissing, Orphan, Memory}
use Rattle.city_families.specs.Chosen.{named_at}
use Rattle.city_families.specs.CityObjects.{HasOrphan, LacksChild, has_parents}
use Rattle.city_families.specs.Places.{IsFamily, IsGraph}
use Rattle.city_families.specs.Reach.{Reached}
use Rattle.city_families.specs.Search.{After, IsMarked}
use Rattle.city_families.specs.declared.families.Family.{Family}

-- objects of these names, with these children, of which these have parents
pub record AreRelated (pairs : List (List ℕ × Tree)) (graph : List (List ℕ)) (parents : List Bool) : Type 0 where
  pub differ : HasDistinctNames (member_trees pairs)
  pub linked : IsGraph (member_trees pairs) graph
  pub parted : parents ≡ map (λ (pair : List ℕ × Tree). has_parents pair.1) pairs

-- an object without parents, by its place
abbrev pub IsBeginner : List Bool → ℕ → Type 0
IsBeginner parents k = get_or parents k true ≡ false

-- the object at a place is reached from one without parents
abbrev pub IsInFamily : List (List ℕ) → List Bool → ℕ → Type 0
IsInFamily graph parents k = (start : ℕ) × IsBeginner parents start × Reached (After graph) start k

-- those of the first `at` objects that have no parents are listed, and have the mark 1
pub record AreListed (parents : List Bool) (at : ℕ) (marks found : List ℕ) : Type 0 where
  pub as_many : length marks ≡ length parents
  pub listed : (k : ℕ) → Contains found k ↔ ((k < at) × IsBeginner parents k)
  pub marked : (k : ℕ) → Contains found k ↔ IsMarked marks 1 k
  pub others : (k : ℕ) → k < length marks → slice_index marks k ≢ 1 → slice_index marks k ≡ 0

-- the mark of each of `count` objects is the place of one before `at`, or their number
pub record IsMarkedSoFar (count at : ℕ) (marks : List ℕ) : Type 0 where
  pub as_many : length marks ≡ count
  pub before : All (λ mark. (mark ≡ count) ⊎ (mark < at)) marks

-- the object at this place begins this family; none, where it has parents
abbrev pub IsBegun : List (List ℕ × Tree) → ℕ → Option Family → Type 0
IsBegun pairs at None = has_parents (named_at pairs at).1 ≡ true
IsBegun pairs at (Some family) =
    (has_parents (named_at pairs at).1 ≡ false) × (family.root ≡ at) × IsFamily (member_trees pairs) at family.places.items

abbrev pub RefusesFamilies : Fault → MemberTrees → Type 0
RefusesFamilies ChildMissing objects = LacksChild objects
RefusesFamilies Orphan objects = (¬ LacksChild objects) × HasOrphan objects
RefusesFamilies Memory objects = Unit {0}
RefusesFamilies other objects = ⊥

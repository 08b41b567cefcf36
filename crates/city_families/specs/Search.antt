-- The search for what can be reached among numbered things, each with the numbers of those that come after it.
use Rattle.std.specs.Prelude.{◌≡◌, ◌≢◌, ◌<◌, ◌≤◌, ◌+◌, ◌++◌, ◌⊎◌, ℕ, if◌then◌else◌, ◌==◌, List, length, Contains, All, slice_get, slice_index, Some}
use Rattle.std.specs.List.{sum_by}
use Rattle.city_families.specs.Reach.{Reached}

abbrev pub After : List (List ℕ) → ℕ → ℕ → Type 0
After graph a b = (row : List ℕ) × (slice_get graph a ≡ Some row) × Contains row b

abbrev pub InRange : List (List ℕ) → ℕ → Type 0
InRange graph n = All (λ row. All (λ b. b < n) row) graph

-- the mark of `k` is `root`
abbrev pub IsMarked : List ℕ → ℕ → ℕ → Type 0
IsMarked marks root k = (k < length marks) × (slice_index marks k ≡ root)

-- how many have another mark
abbrev pub unmarked : ℕ → List ℕ → ℕ
unmarked root marks = sum_by (λ mark. if mark == root then 0 else 1) marks

-- the new things were marked and put after those that were found
pub record Grows (root : ℕ) (new marks marks' found found' : List ℕ) : Type 0 where
  pub long : length marks' ≡ length marks
  pub more : List ℕ
  pub found_is : found' ≡ found ++ more
  pub only_new : (k : ℕ) → Contains more k → Contains new k
  pub all_new : (k : ℕ) → Contains new k → IsMarked marks' root k
  pub kept : (k : ℕ) → IsMarked marks root k → IsMarked marks' root k
  pub only_found : (k : ℕ) → IsMarked marks' root k → IsMarked marks root k ⊎ Contains more k
  pub marked : (k : ℕ) → Contains more k → IsMarked marks' root k
  pub others : (k : ℕ) → k < length marks → slice_index marks' k ≢ root → slice_index marks' k ≡ slice_index marks k
  pub fewer : unmarked root marks' + length more ≡ unmarked root marks

-- it is reached from one of these
abbrev pub IsReachedFrom : List (List ℕ) → List ℕ → ℕ → Type 0
IsReachedFrom graph starts k = (start : ℕ) × Contains starts start × Reached (After graph) start k

-- a search from these things that has noted what comes after each of the first `at` found things
pub record Searches (graph : List (List ℕ)) (starts : List ℕ) (mark : ℕ) (marks marks' found : List ℕ) (at : ℕ) : Type 0 where
  pub long : length marks' ≡ length marks
  pub within : at ≤ length found
  pub begins : (k : ℕ) → Contains starts k → Contains found k
  pub sound : (k : ℕ) → Contains found k → IsReachedFrom graph starts k
  pub marked : (k : ℕ) → Contains found k → IsMarked marks' mark k
  pub only : (k : ℕ) → IsMarked marks' mark k → Contains found k
  pub others : (k : ℕ) → k < length marks → slice_index marks' k ≢ mark → slice_index marks' k ≡ slice_index marks k
  pub closed : (i : ℕ) → i < at → (b : ℕ) → After graph (slice_index found i) b → Contains found b

-- The table of numbers that were given.
use Rattle.std.specs.Prelude.{◌≡◌, ◌<◌, ℕ, List, map, length, Contains, slice_index}
use Rattle.city_families.specs.Points.{CountsUp}

-- the number that the table has for the vertex was given to it
abbrev pub HasNumber : List ℕ → List ℕ → ℕ → Type 0
HasNumber table order vertex =
    (slice_index table vertex < length order) × (slice_index order (slice_index table vertex) ≡ vertex)

-- of these uses each has a number in the table, given in the order of first uses; `order` has at each number what it
-- stands for
pub record AreNumbered (uses table order : List ℕ) : Type 0 where
  pub inside : (i : ℕ) → i < length order → slice_index order i < length table
  pub stands : (i : ℕ) → i < length order → slice_index table (slice_index order i) ≡ i
  pub known : (k : ℕ) → Contains uses k → HasNumber table order k
  pub in_order : CountsUp 0 (map (λ k. slice_index table k) uses) (length order)

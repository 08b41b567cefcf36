-- Numbers that are noted once each.
use Rattle.std.specs.Prelude.{◌≡◌, ◌<◌, ℕ, List, length, slice_index}

-- the numbers that were noted, in their order, of those below the count
pub record RosterState : Type 0 where
  pub count : ℕ
  pub order : List ℕ

-- each is one that the table has room for, and the table has its place
pub record IsRoster (table order : List ℕ) : Type 0 where
  pub inside : (i : ℕ) → i < length order → slice_index order i < length table
  pub stands : (i : ℕ) → i < length order → slice_index table (slice_index order i) ≡ i

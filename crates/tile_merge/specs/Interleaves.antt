-- Lists that stand in one list, each in its own order, and nothing else.
use Rattle.std.specs.Prelude.{◌≡◌, ◌<◌, ◌==◌, ℕ, List, [], ◌∷◌, All, length, slice_index_or, if◌then◌else◌}

-- the items at whose places the number t stands
abbrev pub items_numbered : {X : Type 0} → ℕ → List ℕ → List X → List X
items_numbered t [] out = []
items_numbered t (n ∷ numbers) [] = []
items_numbered t (n ∷ numbers) (item ∷ out) = if n == t then item ∷ items_numbered t numbers out else items_numbered t numbers out

-- Each item is of one list, whose number, from 0, `numbers` has at its place; those of a list are
-- the list.
pub record Interleaves {X : Type 0} (lists : List (List X)) (out : List X) : Type 0 where
  pub numbers : List ℕ
  pub long : length numbers ≡ length out
  pub own : All (λ n. n < length lists) numbers
  pub each : (t : ℕ) → t < length lists → items_numbered t numbers out ≡ slice_index_or lists t []

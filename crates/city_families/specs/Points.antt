-- A feature's objects are those of the document with vertices of their own.
use Rattle.std.specs.Prelude.{◌≡◌, ◌<◌, ◌+◌, ◌⊎◌, ℕ, List, [], ◌∷◌, map, length, Contains, slice_get}
use Rattle.city_json.specs.Tree.{Tree}
use Rattle.city_grid.specs.Axes.{Triple}
use Rattle.city_families.specs.Boundaries.{uses, relabelled_objects}
use Rattle.city_families.specs.Leaves.{renumbered}

-- each is one of the numbers from `next` down that came before, or the next one; `end` are given in all
abbrev pub CountsUp : ℕ → List ℕ → ℕ → Type 0
CountsUp next [] end = next ≡ end
CountsUp next (k ∷ ks) end = ((k < next) × CountsUp next ks end) ⊎ ((k ≡ next) × CountsUp (next + 1) ks end)

-- the objects of a feature with the vertices `own` are those of the document with the vertices `points`, but that
-- each leaf of their boundaries names the same vertex by another number: different vertices by different numbers,
-- the next number at a vertex's first use, and no vertex is left over
pub record SamePoints (points : List Triple) (objects : List (List ℕ × Tree)) (own : List Triple) (own_objects : List (List ℕ × Tree)) : Type 0 where
  pub label : ℕ → ℕ
  pub but_leaves : own_objects ≡ relabelled_objects (renumbered label) objects
  pub same : (k : ℕ) → Contains (uses objects) k → slice_get own (label k) ≡ slice_get points k
  pub apart : (j k : ℕ) → Contains (uses objects) j → Contains (uses objects) k → label j ≡ label k → j ≡ k
  pub in_order : CountsUp 0 (map label (uses objects)) (length own)

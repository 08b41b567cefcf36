-- Texts that are copied with numbers of their own at the leaves of boundaries.
use Rattle.std.specs.Prelude.{◌≡◌, ◌++◌, ◌∷◌, [], ℕ, List, length, slice_index}
use Rattle.city_json.specs.Bytes.{close_bracket}
use Rattle.city_json.specs.Compact.{compact, compact_items}
use Rattle.city_json.specs.CompactEnds.{IsStopped}
use Rattle.city_json.specs.Tree.{Tree, ItemTrees}
use Rattle.city_json.specs.Writable.{IsWritable, AreWritableItems}
use Rattle.city_families.specs.Leaves.{IsNested, AreNested, leaves, item_leaves, relabelled, relabelled_items}
use Rattle.city_families.specs.Numbered.{AreNumbered, HasNumber}
use Rattle.city_families.specs.Relabelling.{own_text}

-- numbers were given, and each that was given before stays
pub record Extends (table order table' order' : List ℕ) : Type 0 where
  pub long : length table' ≡ length table
  pub has : (k : ℕ) → HasNumber table order k → HasNumber table' order' k
  pub kept : (k : ℕ) → HasNumber table order k → slice_index table' k ≡ slice_index table k

-- Leaves were numbered, and a text was written after another: the one that `own` gives for the texts of leaves by any table
-- that goes on from here.
pub record Copies (table order line table' order' line' uses : List ℕ) (own : (List ℕ → List ℕ) → List ℕ) : Type 0 where
  pub extends : Extends table order table' order'
  pub numbered : (before : List ℕ) → AreNumbered before table order → AreNumbered (before ++ uses) table' order'
  pub written : (final last : List ℕ) → Extends table' order' final last → line' ≡ line ++ own (own_text final)

-- whatever part of a boundary stands at the front of bytes, `after` is left, and it was copied
abbrev pub CopiesPart : ℕ → List ℕ → List ℕ → (List ℕ → ((List ℕ → List ℕ) → List ℕ) → Type 0) → Type 0
CopiesPart count b after Made =
    (value : Tree) (rest : List ℕ) → IsWritable value → IsStopped rest → b ≡ compact value ++ rest
    → (after ≡ rest) × IsNested count value × Made (leaves value) (λ change. compact (relabelled change value))

-- the same after an opening bracket
abbrev pub CopiesItems : ℕ → List ℕ → List ℕ → (List ℕ → ((List ℕ → List ℕ) → List ℕ) → Type 0) → Type 0
CopiesItems count b after Made =
    (items : ItemTrees) (rest : List ℕ) → AreWritableItems items → b ≡ compact_items items ++ close_bracket ∷ rest
    → (after ≡ rest) × AreNested count items × Made (item_leaves items) (λ change. compact_items (relabelled_items change items) ++ close_bracket ∷ [])

-- the leaves were numbered, whatever was written
pub record Numbers (table order table' order' uses : List ℕ) : Type 0 where
  pub extends : Extends table order table' order'
  pub numbered : (before : List ℕ) → AreNumbered before table order → AreNumbered (before ++ uses) table' order'

-- The items of an array, one after another in its compact text.
use Rattle.std.specs.Prelude.{◌≡◌, ℕ, List}
use Rattle.city_json.specs.CompactTexts.{IsCompactOf}
use Rattle.city_json.specs.Tree.{Tree, array, ItemTrees, no_items, item}

-- of the array that has the text before, this is the text of the first item, and the one after that of the array of the others
abbrev pub IsNextItem : List ℕ → List ℕ → List ℕ → Type 0
IsNextItem before one after = (items : ItemTrees) → IsCompactOf before (array items)
    → (first : Tree) × (others : ItemTrees) × (items ≡ item first others) × IsCompactOf one first × IsCompactOf after (array others)

-- the array that has this text has no items
abbrev pub HasNoItem : List ℕ → Type 0
HasNoItem text = (items : ItemTrees) → IsCompactOf text (array items) → items ≡ no_items

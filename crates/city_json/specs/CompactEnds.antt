-- What is left after a value that stands at the front of bytes in its compact text.
use Rattle.std.specs.Prelude.{◌≡◌, ◌++◌, ◌≤◌, ◌⊎◌, ◌||◌, ◌==◌, ℕ, Bool, false, not, List, [], ◌∷◌}
use Rattle.std.specs.List.{flat_map, AllByRecursion}
use Rattle.city_json.specs.Bytes.{comma, close_bracket, close_brace, quotation_mark}
use Rattle.city_json.specs.Compact.{written, compact, compact_items, compact_members}
use Rattle.city_json.specs.Fits.{depth, items_depth, members_depth}
use Rattle.city_json.specs.Tree.{Tree, ItemTrees, MemberTrees}
use Rattle.city_json.specs.Writable.{IsWritable, AreWritableItems, AreWritableMembers}

-- a byte that ends an item or a member
abbrev pub is_stop : ℕ → Bool
is_stop c = (c == comma) || ((c == close_bracket) || (c == close_brace))

abbrev pub goes_on : ℕ → Bool
goes_on c = not (is_stop c)

-- what stands after an item or a member
abbrev pub IsStopped : List ℕ → Type 0
IsStopped [] = Unit {0}
IsStopped (c ∷ cs) = (c ≡ comma) ⊎ ((c ≡ close_bracket) ⊎ (c ≡ close_brace))

-- after the opening mark of a string
abbrev pub LeavesString : List ℕ → List ℕ → Type 0
LeavesString b after = (content rest : List ℕ) → b ≡ flat_map written content ++ quotation_mark ∷ rest → after ≡ rest

-- after a run of bytes that end nothing
abbrev pub LeavesRun : List ℕ → List ℕ → Type 0
LeavesRun b after = (run rest : List ℕ) → AllByRecursion (λ c. is_stop c ≡ false) run → IsStopped rest → b ≡ run ++ rest → after ≡ rest

-- whatever value stands there, no deeper than this, this is left after it
abbrev pub LeavesValue : ℕ → List ℕ → List ℕ → Type 0
LeavesValue levels b after = (value : Tree) (rest : List ℕ) → IsWritable value → depth value ≤ levels → IsStopped rest → b ≡ compact value ++ rest → after ≡ rest

-- the same of what stands after an opening bracket
abbrev pub LeavesItems : ℕ → List ℕ → List ℕ → Type 0
LeavesItems levels b after = (items : ItemTrees) (rest : List ℕ) → AreWritableItems items → items_depth items ≤ levels → b ≡ compact_items items ++ close_bracket ∷ rest → after ≡ rest

-- and after an opening brace
abbrev pub LeavesMembers : ℕ → List ℕ → List ℕ → Type 0
LeavesMembers levels b after = (members : MemberTrees) (rest : List ℕ) → AreWritableMembers members → members_depth members ≤ levels → b ≡ compact_members members ++ close_brace ∷ rest → after ≡ rest

use Rattle.std.proofs.Common.{◌≡◌, ◌++◌, ◌∷◌, ◌≤◌, ◌-◌, ◌+◌, ◌*◌, ℕ, List, length, drop}
use Rattle.city_json.specs.Bytes.{close_bracket, close_brace}
use Rattle.city_json.specs.Compact.{compact_items, compact_members}
use Rattle.city_json.specs.Fits.{items_depth, members_depth}
use Rattle.city_json.specs.Tree.{ItemTrees, MemberTrees}
use Rattle.city_json.specs.Writable.{AreWritableItems, AreWritableMembers}
use Rattle.city_json.proofs.CompactEnds.{ItemsLeft}
use Rattle.city_json.proofs.MemberEnds.{MembersLeft}
use Rattle.city_json.proofs.compacting.ends.+end_of.Given as goal

abbrev pub decreases-end_of : goal.decreases-end_of
decreases-end_of l = 2 * l.levels

abbrev pub decreases-array_end : goal.decreases-array_end
decreases-array_end l = 2 * l.levels + 1

abbrev pub decreases-object_end : goal.decreases-object_end
decreases-object_end l = 2 * l.levels + 1

abbrev pub invariant-array_end-items : goal.invariant-array_end-items
invariant-array_end-items l = record {
  onward : l.at ≤ l.i;
  within : l.i ≤ length l.text;
  goes_on : (items : ItemTrees) (rest : List ℕ) → AreWritableItems items → items_depth items ≤ l.levels
      → drop l.at l.text ≡ compact_items items ++ close_bracket ∷ rest → ItemsLeft l.levels (drop l.i l.text) rest;
}

abbrev pub decreases-array_end-items : goal.decreases-array_end-items
decreases-array_end-items l = length l.text - l.i

abbrev pub invariant-object_end-members : goal.invariant-object_end-members
invariant-object_end-members l = record {
  onward : l.at ≤ l.i;
  within : l.i ≤ length l.text;
  goes_on : (members : MemberTrees) (rest : List ℕ) → AreWritableMembers members → members_depth members ≤ l.levels
      → drop l.at l.text ≡ compact_members members ++ close_brace ∷ rest → MembersLeft l.levels (drop l.i l.text) rest;
}

abbrev pub decreases-object_end-members : goal.decreases-object_end-members
decreases-object_end-members l = length l.text - l.i

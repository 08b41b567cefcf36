use Rattle.std.proofs.Common.{◌≡◌, ◌++◌, ◌≤◌, ◌<◌, ◌-◌, ◌+◌, ◌*◌, List, ℕ, length, take, drop}
use Rattle.city_json.specs.Compacting.{shown, ItemsFrom}
use Rattle.city_json.specs.Flat.{ItemIsNext}
use Rattle.city_json.specs.ListedNames.{names_in}
use Rattle.city_json.specs.Reading.{after_white}
use Rattle.city_json.proofs.PassMembers.{MembersFrom, MembersWhole}
use Rattle.city_json.proofs.compacting.values.+value.Given as goal

abbrev pub decreases-value : goal.decreases-value
decreases-value l = 4 * l.levels

abbrev pub decreases-member : goal.decreases-member
decreases-member l = 4 * l.levels + 2

abbrev pub decreases-member_value : goal.decreases-member_value
decreases-member_value l = 4 * l.levels + 1

abbrev pub decreases-array : goal.decreases-array
decreases-array l = 4 * l.levels + 3

abbrev pub decreases-object : goal.decreases-object
decreases-object l = 4 * l.levels + 3

abbrev pub decreases-items : goal.decreases-items
decreases-items l = 4 * l.levels + 2

abbrev pub decreases-next_item : goal.decreases-next_item
decreases-next_item l = 4 * l.levels + 1

abbrev pub invariant-items-items : goal.invariant-items-items
invariant-items-items l = record {
  onward : l.at ≤ l.i;
  within : l.i ≤ length l.text;
  copied : l.draft.from ≤ l.i;
  names : names_in l.text l.draft.names ≡ names_in l.text l.fn.draft.names;
  some : 0 < l.depth;
  few : l.depth ≤ l.levels + 1;
  goes_on : (rest after : List ℕ)
      → ItemIsNext l.depth (l.levels + 1) (drop l.i l.text) rest (shown l.draft.line l.text l.draft.from l.i) after
      → ItemsFrom l.levels (after_white (drop l.at l.text)) rest
      (shown l.fn.draft.line l.text l.fn.draft.from l.at) after;
}

abbrev pub decreases-items-items : goal.decreases-items-items
decreases-items-items l = length l.text - l.i

abbrev pub invariant-object-members : goal.invariant-object-members
invariant-object-members l = record {
  onward : l.at ≤ l.i;
  within : l.i ≤ length l.text;
  copied : l.draft.from ≤ l.i;
  few : l.base ≤ length (names_in l.text l.draft.names);
  names : take l.base (names_in l.text l.draft.names) ≡ names_in l.text l.fn.draft.names;
  goes_on : (rest after : List ℕ) (listed : List (List ℕ))
      → MembersFrom l.levels (drop l.i l.text) rest (shown l.draft.line l.text l.draft.from l.i) after listed
      → MembersWhole l.levels (drop l.at l.text) rest (shown l.fn.draft.line l.text l.fn.draft.from l.at) after
      (drop l.base (names_in l.text l.draft.names) ++ listed);
}

abbrev pub decreases-object-members : goal.decreases-object-members
decreases-object-members l = length l.text - l.i

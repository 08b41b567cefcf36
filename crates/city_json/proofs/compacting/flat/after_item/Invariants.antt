use Rattle.std.proofs.Common.{◌≡◌, ◌≤◌, List, ℕ, length, drop}
use Rattle.city_json.specs.Compacting.{shown}
use Rattle.city_json.specs.Flat.{ItemWasTaken}
use Rattle.city_json.specs.ListedNames.{names_in}
use Rattle.city_json.proofs.compacting.flat.after_item.Given as goal

abbrev pub invariant-closing : goal.invariant-closing
invariant-closing l = record {
  onward : l.at ≤ l.end;
  within : l.end ≤ length l.text;
  copied : l.draft.from ≤ l.end;
  fewer : l.left ≤ l.depth;
  names : names_in l.text l.draft.names ≡ names_in l.text l.fn.draft.names;
  goes_on : (total : ℕ) (rest after : List ℕ)
      → ItemWasTaken l.left total (drop l.end l.text) rest (shown l.draft.line l.text l.draft.from l.end) after
      → ItemWasTaken l.depth total (drop l.at l.text) rest (shown l.fn.draft.line l.text l.fn.draft.from l.at) after;
}

abbrev pub decreases-closing : goal.decreases-closing
decreases-closing l = l.left

use Rattle.std.proofs.Common.{◌≡◌, ◌≤◌, ◌-◌, List, ℕ, length, drop}
use Rattle.city_json.specs.Compacting.{shown, ItemsFrom}
use Rattle.city_json.specs.ListedNames.{names_in}
use Rattle.city_json.specs.Reading.{after_white}
use Rattle.city_json.proofs.compacting.flat.numbers.Given as goal

abbrev pub invariant-numbers : goal.invariant-numbers
invariant-numbers l = record {
  onward : l.at ≤ l.i;
  within : l.i ≤ length l.text;
  copied : l.draft.from ≤ l.i;
  names : names_in l.text l.draft.names ≡ names_in l.text l.fn.draft.names;
  goes_on : (levels : ℕ) (rest after : List ℕ)
      → ItemsFrom levels (after_white (drop l.i l.text)) rest (shown l.draft.line l.text l.draft.from l.i) after
      → ItemsFrom levels (after_white (drop l.at l.text)) rest
      (shown l.fn.draft.line l.text l.fn.draft.from l.at) after;
}

abbrev pub decreases-numbers : goal.decreases-numbers
decreases-numbers l = length l.text - l.i

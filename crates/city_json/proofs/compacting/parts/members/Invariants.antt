use Rattle.std.proofs.Common.{◌++◌, ◌≤◌, ◌-◌, List, ℕ, length, drop}
use Rattle.city_json.specs.Compacting.{shown}
use Rattle.city_json.specs.ListedNames.{names_in}
use Rattle.city_json.specs.Triples.{HasTriples}
use Rattle.city_json.specs.declared.compacting.places.MemberPlace.{MemberPlace}
use Rattle.city_json.proofs.PassParts.{PartsFrom, PartsWhole}
use Rattle.city_json.proofs.compacting.parts.members.Given as goal

abbrev pub invariant-members : goal.invariant-members
invariant-members l = record {
  onward : l.at ≤ l.i;
  within : l.i ≤ length l.text;
  copied : l.draft.from ≤ l.i;
  triples : HasTriples (shown l.draft.line l.text l.draft.from l.i) l.triples;
  goes_on : (rest after : List ℕ) (listed : List (List ℕ)) (parts : List MemberPlace)
      → PartsFrom l.levels (drop l.i l.text) rest (shown l.draft.line l.text l.draft.from l.i) after listed parts
      → PartsWhole l.levels (drop l.at l.text) rest (shown l.fn.draft.line l.text l.fn.draft.from l.at) after
      (names_in l.text l.draft.names ++ listed) (l.parts.items ++ parts);
}

abbrev pub decreases-members : goal.decreases-members
decreases-members l = length l.text - l.i

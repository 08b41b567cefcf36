use Rattle.std.proofs.Common.{◌≡◌, ◌≤◌, ◌<◌, ◌+◌, ◌-◌, length, drop}
use Rattle.city_json.specs.Compacting.{shown}
use Rattle.city_json.specs.ListedNames.{names_in}
use Rattle.city_json.proofs.PassEscapes.{TakenPieces}
use Rattle.city_json.proofs.compacting.strings.respelled.Given as goal

abbrev pub invariant-pieces : goal.invariant-pieces
invariant-pieces l = record {
  onward : l.at < l.i;
  within : l.i ≤ length l.text;
  copied : l.draft.from ≤ l.i;
  names : names_in l.text l.draft.names ≡ names_in l.text l.fn.draft.names;
  taken : TakenPieces (drop (l.at + 1) l.text) (drop l.i l.text)
      (shown l.fn.draft.line l.text l.fn.draft.from (l.at + 1)) (shown l.draft.line l.text l.draft.from l.i);
}

abbrev pub decreases-pieces : goal.decreases-pieces
decreases-pieces l = length l.text - l.i

use Rattle.std.proofs.Common.{◌≤◌, ◌<◌, ◌-◌, length}
use Rattle.city_json.proofs.FrontMembers.{GoesFrom}
use Rattle.city_json.proofs.compacting.members.end_after.Given as goal

abbrev pub invariant-members : goal.invariant-members
invariant-members l = record {
  onward : l.end ≤ l.last;
  within : l.last < length l.text;
  goes : GoesFrom l.text l.end l.last;
}

abbrev pub decreases-members : goal.decreases-members
decreases-members l = length l.text - l.last

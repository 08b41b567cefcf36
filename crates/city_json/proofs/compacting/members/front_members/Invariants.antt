use Rattle.std.proofs.Common.{◌≤◌, ◌-◌, length}
use Rattle.city_json.specs.FrontMembers.{GoesOn}
use Rattle.city_json.proofs.compacting.members.front_members.Given as goal

abbrev pub invariant-members : goal.invariant-members
invariant-members l = record {
  within : l.at ≤ length l.text;
  goes_on : GoesOn l.at l.text l.parts.items;
}

abbrev pub decreases-members : goal.decreases-members
decreases-members l = length l.text - l.at

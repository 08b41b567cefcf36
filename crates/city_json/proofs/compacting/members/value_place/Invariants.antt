use Rattle.std.proofs.Common.{◌≤◌, ◌-◌, length}
use Rattle.city_json.specs.declared.compacting.places.MemberPlace.{MemberPlace}
use Rattle.std.specs.Prelude.{List}
use Rattle.city_json.specs.FrontMembers.{GoesOn}
use Rattle.city_json.proofs.compacting.members.value_place.Given as goal

abbrev pub invariant-members : goal.invariant-members
invariant-members l = record {
  within : l.at ≤ length l.text;
  goes_on : (parts : List MemberPlace) × GoesOn l.at l.text parts;
}

abbrev pub decreases-members : goal.decreases-members
decreases-members l = length l.text - l.at

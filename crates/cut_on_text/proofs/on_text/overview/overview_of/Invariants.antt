use Rattle.std.proofs.Common.{◌≤◌, ◌-◌, length}
use Rattle.std.specs.List.{AllZip}
use Rattle.cut_on_text.specs.Overviews.{AreHolders, HasChildrenIn, HasParentsIn}
use Rattle.city_json.specs.FrontMembers.{GoesOn}
use Rattle.cut_on_text.proofs.on_text.overview.overview_of.Given as goal

abbrev pub invariant-objects : goal.invariant-objects
invariant-objects l = record {
  within : l.at ≤ length l.text;
  goes_on : GoesOn l.at l.text l.found.places.items;
  parents : AllZip (HasParentsIn l.text) l.found.places.items l.found.parents.items;
  children : AllZip (HasChildrenIn l.text) l.found.places.items l.found.children.items;
  held : AreHolders l.text l.found.places.items l.found.held.items;
}

abbrev pub decreases-objects : goal.decreases-objects
decreases-objects l = length l.text - l.at

use Rattle.std.proofs.Common.{◌≤◌}
use Rattle.city_families.specs.Table.{AreFirst}
use Rattle.cut_on_text.proofs.on_text.names.first_places.Given as goal

abbrev pub invariant-loop-at : goal.invariant-loop-at
invariant-loop-at l = record {
  first : AreFirst l.at l.places.items;
  within : l.at ≤ l.count;
}

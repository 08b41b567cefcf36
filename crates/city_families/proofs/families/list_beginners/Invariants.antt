use Rattle.city_families.specs.Families.{AreListed}
use Rattle.city_families.proofs.families.list_beginners.Given as goal

abbrev pub invariant-loop-at : goal.invariant-loop-at
invariant-loop-at l = AreListed l.parents l.at l.marks l.found.items

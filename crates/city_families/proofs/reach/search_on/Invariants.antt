use Rattle.std.proofs.Common.{◌+◌, ◌-◌, length}
use Rattle.city_families.specs.Search.{Searches, unmarked}
use Rattle.city_families.proofs.reach.search_on.Given as goal

abbrev pub invariant-loop-at : goal.invariant-loop-at
invariant-loop-at l = Searches l.graph l.fn.found.items l.mark l.fn.marks l.marks l.found.items l.at

abbrev pub decreases-loop-at : goal.decreases-loop-at
decreases-loop-at l = unmarked l.mark l.marks + (length l.found.items - l.at)

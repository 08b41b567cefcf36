use Rattle.std.proofs.Common.{◌≡◌, ◌-◌, length}
use Rattle.cut_on_text.proofs.Gathered.{Gathers}
use Rattle.cut_on_text.proofs.gathering.gather.Given as goal

abbrev pub invariant-reached : goal.invariant-reached
invariant-reached l = record {
  count : l.found.count ≡ length l.graph;
  gathers : Gathers l.graph l.root l.found.order l.at;
}

abbrev pub decreases-reached : goal.decreases-reached
decreases-reached l = length l.graph - l.at

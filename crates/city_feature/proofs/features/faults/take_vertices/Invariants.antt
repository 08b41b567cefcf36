use Rattle.std.proofs.Common.{length}
use Rattle.city_feature.proofs.features.FirstFaults.{TakesOn}
use Rattle.city_feature.proofs.features.faults.take_vertices.Given as goal

abbrev pub invariant-vertices : goal.invariant-vertices
invariant-vertices g l = TakesOn (g.T.TakeVertex.has l.to) l.text l.items

abbrev pub decreases-vertices : goal.decreases-vertices
decreases-vertices g l = length l.items

use Rattle.std.proofs.Common.{◌<◌, ◌-◌, List, All}
use Rattle.city_grid.specs.Axes.{IsInRange, Triple}
use Rattle.city_feature.specs.Extent.{IsExtentSoFar}
use Rattle.city_feature.proofs.features.TripleVertices.{GoesTo, Remain}
use Rattle.city_feature.proofs.features.on_text.unread.extent_of_triples.Given as goal

abbrev pub invariant-vertices : goal.invariant-vertices
invariant-vertices l = record {
  within : l.at < l.end;
  remain : Remain l.text l.at l.end;
  so_far : (read : List Triple) × GoesTo l.text l.from l.end l.at read × All IsInRange read
      × IsExtentSoFar read l.extent;
}

abbrev pub decreases-vertices : goal.decreases-vertices
decreases-vertices l = l.end - l.at

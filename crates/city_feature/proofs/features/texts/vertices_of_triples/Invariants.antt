use Rattle.std.proofs.Common.{◌<◌, ◌-◌, All}
use Rattle.city_grid.specs.Axes.{IsInRange}
use Rattle.city_feature.proofs.features.TripleVertices.{GoesTo, Remain}
use Rattle.city_feature.proofs.features.texts.vertices_of_triples.Given as goal

abbrev pub invariant-vertices : goal.invariant-vertices
invariant-vertices l = record {
  within : l.at < l.end;
  remain : Remain l.text l.at l.end;
  goes_to : GoesTo l.text l.from l.end l.at l.vertices.items;
  range : All IsInRange l.vertices.items;
}

abbrev pub decreases-vertices : goal.decreases-vertices
decreases-vertices l = l.end - l.at

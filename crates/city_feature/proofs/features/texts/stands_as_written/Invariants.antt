use Rattle.std.proofs.Common.{◌≤◌, ◌-◌, List, All, length}
use Rattle.city_grid.specs.Axes.{Triple, IsInRange}
use Rattle.city_feature.proofs.features.TextVertices.{GoesOn}
use Rattle.city_feature.proofs.features.texts.stands_as_written.Given as goal

abbrev pub invariant-vertices : goal.invariant-vertices
invariant-vertices l = record {
  within : l.at ≤ length l.text;
  goes_on : (read : List Triple) × GoesOn l.text l.at read × All IsInRange read;
}

abbrev pub decreases-vertices : goal.decreases-vertices
decreases-vertices l = length l.text - l.at

use Rattle.std.proofs.Common.{◌≤◌, ◌-◌, All, IsTrue, length}
use Rattle.city_grid.specs.Axes.{IsInRange}
use Rattle.city_feature.proofs.features.TextVertices.{GoesOn, SpellsOn}
use Rattle.city_feature.proofs.features.texts.vertices_of.Given as goal

abbrev pub invariant-vertices : goal.invariant-vertices
invariant-vertices l = record {
  within : l.at ≤ length l.text;
  spells : SpellsOn l.text l.at l.vertices.items;
  written : IsTrue l.as_written → GoesOn l.text l.at l.vertices.items;
  range : All IsInRange l.vertices.items;
}

abbrev pub decreases-vertices : goal.decreases-vertices
decreases-vertices l = length l.text - l.at

use Rattle.std.proofs.Common.{◌≡◌, ◌++◌, All, take, drop}
use Rattle.city_grid.specs.Axes.{IsInRange}
use Rattle.city_feature.specs.Feature.{moved_vertices}
use Rattle.city_feature.proofs.features.moving.moved_all.Given as goal

abbrev pub invariant-loop-vertex : goal.invariant-loop-vertex
invariant-loop-vertex l =
    (moved_vertices l.fn.vertices.items l.shift ≡ take l.vertex-index l.vertex-items
    ++ moved_vertices (drop l.vertex-index l.vertex-items) l.shift)
    × All IsInRange (take l.vertex-index l.vertex-items)

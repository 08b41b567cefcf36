use Rattle.std.proofs.Common.{◌≡◌, List, map, take}
use Rattle.city_json.specs.Tree.{tree, items_tree}
use Rattle.city_grid.specs.Axes.{Triple}
use Rattle.city_grid.specs.Vertex.{vertex_tree}
use Rattle.city_feature.specs.Feature.{AreReadAgain, AreVertices}
use Rattle.city_families.specs.Chosen.{point_at}
use Rattle.cut_by_value.proofs.assembling.own_vertices.Given as goal

abbrev pub invariant-loop-at : goal.invariant-loop-at
invariant-loop-at l =
    record {
      written : (points : List Triple) → AreVertices (items_tree l.values) points
          → map tree l.own.items ≡ map (λ k. vertex_tree (point_at points k)) (take l.at-index l.order);
      again : (points : List Triple) → AreVertices (items_tree l.values) points
          → AreReadAgain (map (point_at points) (take l.at-index l.order));
    }

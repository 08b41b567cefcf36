use Rattle.std.proofs.Common.{◌≡◌, ◌++◌, map, take}
use Rattle.city_json.specs.Compact.{compact_more_items}
use Rattle.city_json.specs.Tree.{item_trees}
use Rattle.city_grid.specs.Vertex.{vertex_tree}
use Rattle.city_feature.proofs.features.texts.append_vertices.Given as goal

abbrev pub invariant-loop-vertex : goal.invariant-loop-vertex
invariant-loop-vertex l = l.to ≡ l.initial.to
    ++ compact_more_items (item_trees (map vertex_tree (take l.vertex-index l.others)))

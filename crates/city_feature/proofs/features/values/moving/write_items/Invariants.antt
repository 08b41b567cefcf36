use Rattle.std.proofs.Common.{◌≡◌, length, map, take}
use Rattle.city_json.specs.Tree.{tree}
use Rattle.city_grid.specs.Vertex.{vertex_tree}
use Rattle.city_feature.specs.Feature.{AreReadAgain}
use Rattle.city_feature.proofs.features.values.moving.write_items.Given as goal

abbrev pub invariant-loop-at : goal.invariant-loop-at
invariant-loop-at l =
    (length l.items.items ≡ length l.vertices)
    × (map tree (take l.at l.items.items) ≡ map vertex_tree (take l.at l.vertices))
    × AreReadAgain (take l.at l.vertices)

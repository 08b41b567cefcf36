use Rattle.std.proofs.Common.{◌≡◌, ◌≤◌, length}
use Rattle.city_feature.proofs.features.FeatureVertices.{Continues, RefusesOn}
use Rattle.city_feature.proofs.features.values.reader.read_vertices.Given as goal

abbrev pub invariant-loop-item : goal.invariant-loop-item
invariant-loop-item l =
    (l.vertices.len ≡ l.item-index)
    × (length l.items ≤ l.vertices.cap)
    × Continues l.items l.item-index l.vertices.items
    × RefusesOn l.items l.item-index

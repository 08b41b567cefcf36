use Rattle.std.proofs.Common.{List, map, take}
use Rattle.std.specs.List.{All}
use Rattle.city_grid.specs.Axes.{IsInRange, Triple}
use Rattle.cut_on_text.specs.Moved.{moved_or_same}
use Rattle.cut_on_text.specs.VertexTexts.{IsGrown, StandAt}
use Rattle.cut_on_text.proofs.on_text.moving.moved_vertices.Given as goal

-- the vertices before this one were moved
abbrev pub invariant-loop-at : goal.invariant-loop-at
invariant-loop-at l =
    (points : List Triple) → StandAt l.vertices.text l.vertices.starts.items points → All IsInRange points
    → IsGrown l.there.text l.there.starts.items (map (moved_or_same l.shift) (take l.at points))

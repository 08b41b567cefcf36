use Rattle.std.proofs.Common.{◌≡◌, ◌++◌, List, map, take}
use Rattle.city_json.specs.Compact.{compact_more_items}
use Rattle.city_grid.specs.Axes.{Triple}
use Rattle.city_families.specs.Chosen.{point_at}
use Rattle.cut_on_text.specs.VertexTexts.{StandAt}
use Rattle.cut_on_text.proofs.TextPoints.{trees_of}
use Rattle.cut_on_text.proofs.on_text.points.append_more_points.Given as goal

abbrev pub invariant-loop-number : goal.invariant-loop-number
invariant-loop-number l =
    (points : List Triple) → StandAt l.vertices.text.now l.vertices.starts.items points
    → l.line ≡ l.fn.line ++ compact_more_items (trees_of (map (point_at points) (take l.number-index l.numbers)))

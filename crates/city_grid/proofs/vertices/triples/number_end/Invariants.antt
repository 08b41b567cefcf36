use Rattle.std.proofs.Common.{◌≡◌, ◌+◌, ◌-◌, ◌≤◌, length, drop}
use Rattle.city_grid.specs.NumberEnds.{number_len}
use Rattle.city_grid.proofs.vertices.triples.number_end.Given as goal

abbrev pub invariant-loop-end : goal.invariant-loop-end
invariant-loop-end l = (l.fn.at ≤ l.end)
    × (l.fn.at + number_len (drop l.fn.at l.text) ≡ l.end + number_len (drop l.end l.text))

abbrev pub decreases-loop-end : goal.decreases-loop-end
decreases-loop-end l = length l.text - l.end

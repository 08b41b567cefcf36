use Rattle.std.proofs.Common.{◌≡◌, length}
use Rattle.cut_by_value.proofs.boundaries.check_boundaries.Given as goal

abbrev pub invariant-loop-member : goal.invariant-loop-member
invariant-loop-member l = length l.numbering.table.items ≡ l.vertices

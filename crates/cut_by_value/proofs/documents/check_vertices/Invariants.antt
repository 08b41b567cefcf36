use Rattle.cut_by_value.proofs.Checking.{GoesOn, RefusesOn}
use Rattle.cut_by_value.proofs.documents.check_vertices.Given as goal

abbrev pub invariant-loop-item : goal.invariant-loop-item
invariant-loop-item l = GoesOn l.items l.item-index × RefusesOn l.items l.item-index

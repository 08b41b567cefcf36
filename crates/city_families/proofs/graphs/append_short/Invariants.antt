use Rattle.std.proofs.Common.{◌≡◌, ◌++◌, take}
use Rattle.city_families.proofs.graphs.append_short.Given as goal

abbrev pub invariant-loop-one : goal.invariant-loop-one
invariant-loop-one l = l.to.items ≡ l.fn.to.items ++ take l.one-index l.row

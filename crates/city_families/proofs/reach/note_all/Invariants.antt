use Rattle.std.proofs.Common.{take}
use Rattle.city_families.specs.Search.{Grows}
use Rattle.city_families.proofs.reach.note_all.Given as goal

abbrev pub invariant-loop-one : goal.invariant-loop-one
invariant-loop-one l = Grows l.root (take l.one-index l.new) l.initial.marks l.marks l.initial.found.items l.found.items

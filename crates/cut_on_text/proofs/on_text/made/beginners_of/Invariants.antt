use Rattle.std.proofs.Common.{◌≡◌, get_or, not, true}
use Rattle.std.specs.List.{filter}
use Rattle.cut_on_text.specs.Made.{numbers_below}
use Rattle.cut_on_text.proofs.on_text.made.beginners_of.Given as goal

-- those of the first objects that have no parents were listed
abbrev pub invariant-loop-at : goal.invariant-loop-at
invariant-loop-at l = l.found.items ≡ filter (λ k. not (get_or l.parents k true)) (numbers_below l.at)

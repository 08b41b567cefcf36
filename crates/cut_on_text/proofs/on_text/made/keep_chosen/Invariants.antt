use Rattle.cut_on_text.proofs.KeptPlaces.{IsKept}
use Rattle.cut_on_text.proofs.on_text.made.keep_chosen.Given as goal

abbrev pub invariant-loop-at : goal.invariant-loop-at
invariant-loop-at l = IsKept l.chosen l.at l.fn.roots.items l.roots.items l.kept

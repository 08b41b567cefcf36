use Rattle.std.proofs.Common.{length}
use Rattle.cut_on_text.proofs.TextNames.{TextsGoOn}
use Rattle.cut_on_text.proofs.on_text.kin.texts_of.Given as goal

abbrev pub invariant-texts : goal.invariant-texts
invariant-texts l = TextsGoOn l.text l.items l.found.items

abbrev pub decreases-texts : goal.decreases-texts
decreases-texts l = length l.items

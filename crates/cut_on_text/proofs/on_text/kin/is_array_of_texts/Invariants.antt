use Rattle.std.proofs.Common.{length}
use Rattle.city_json.proofs.PassedItems.{GoesOnWith}
use Rattle.cut_on_text.proofs.ArraysOfTexts.{SameTexts}
use Rattle.cut_on_text.proofs.on_text.kin.is_array_of_texts.Given as goal

abbrev pub invariant-texts : goal.invariant-texts
invariant-texts l = GoesOnWith SameTexts l.text l.items

abbrev pub decreases-texts : goal.decreases-texts
decreases-texts l = length l.items

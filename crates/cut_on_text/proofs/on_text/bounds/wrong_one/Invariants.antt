use Rattle.std.proofs.Common.{length}
use Rattle.city_json.proofs.PassedItems.{GoesOnWith}
use Rattle.cut_on_text.specs.Holders.{IsHeld}
use Rattle.cut_on_text.proofs.ScannedBounds.{AlsoLeft}
use Rattle.cut_on_text.proofs.on_text.bounds.wrong_one.Given as goal

abbrev pub invariant-items : goal.invariant-items
invariant-items l = GoesOnWith (AlsoLeft (IsHeld l.holder l.count)) l.fn.items l.items

abbrev pub decreases-items : goal.decreases-items
decreases-items l = length l.items

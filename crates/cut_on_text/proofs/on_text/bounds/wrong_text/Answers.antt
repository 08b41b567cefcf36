use Rattle.std.proofs.Common.{subst, sym}
use Rattle.city_json.specs.CompactTexts.{IsCompactOf}
use Rattle.city_json.specs.Tree.{array}
use Rattle.cut_on_text.proofs.ScannedBounds.{array_wrong}
use Rattle.cut_on_text.proofs.TextMembers.{on_some_more}
use Rattle.cut_on_text.proofs.on_text.bounds.wrong_text.Goals as goal

pub returns-in-Some : goal.returns-in-Some
returns-in-Some c = on_some_more c.wrong_one.result (λ wrong.
    array_wrong c.args.holder c.args.count c.args.text.now c.in-Some.ensures.array
    (λ all of. wrong all (subst (λ l. IsCompactOf l (array all)) (sym c.in-Some.ensures.some) of))) c.wrong_one.ensures

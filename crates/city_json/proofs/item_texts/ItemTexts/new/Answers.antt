use Rattle.std.proofs.Common.{◌<◌, arith, length}
use Rattle.std.proofs.lemmas.Bool.Decides.{nat_tests}
use Rattle.city_json.proofs.PassedItems.{array_there}
use Rattle.city_json.proofs.item_texts.ItemTexts.new.Goals as goal

pub returns-clause-array : goal.returns-clause-array
returns-clause-array c =
    let text = c.args.text.now in
    let some : 0 < length text = grind (arith, nat_tests, c.is_empty.ensures, c.if-is_empty.false) in
    array_there text some c.if-text-ne91.false

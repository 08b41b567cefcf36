use Rattle.std.proofs.Common.{◌<◌, ◌≤◌, arith, get_or, length}
use Rattle.std.proofs.lemmas.Bool.Decides.{nat_tests}
use Rattle.city_feature.proofs.features.ThreeNumbers.{is_number_text, number_text_begins}
use Rattle.city_feature.proofs.features.faults.is_number.Goals as goal

pub returns-then-text-ge45 : goal.returns-then-text-ge45
returns-then-text-ge45 c = λ value of.
    let text = c.args.text.now in
    let some : 0 < length text = grind (arith, nat_tests, c.is_empty.ensures, c.if-is_empty.false) in (
      λ high.
          let below : get_or text 0 0 ≤ 57 = grind (arith, nat_tests, high) in
          is_number_text text some c.if-text-ge45.true below value of,
      λ is. grind (arith, nat_tests, (number_text_begins text value of is).2),
    )

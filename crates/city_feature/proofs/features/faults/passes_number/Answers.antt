use Rattle.city_feature.proofs.features.LineVertices.{not_both}
use Rattle.city_feature.proofs.features.ThreeNumbers.{no_number_passed, none_passed, number_passed}
use Rattle.city_feature.proofs.features.faults.passes_number.Goals as goal

pub returns-in_default-clause-no : goal.returns-in_default-clause-no
returns-in_default-clause-no c = λ not. none_passed c.args.items.now c.in_default.ensures.none

pub returns-clause-yes : goal.returns-clause-yes
returns-clause-yes c = λ is. number_passed c.args.items.now c.in-Some.one.now c.next.new.self c.in-Some.ensures.some
    (λ value of. (c.is_number.ensures value of).0 is)

pub returns-clause-no : goal.returns-clause-no
returns-clause-no c = λ not. no_number_passed c.args.items.now c.in-Some.one.now c.next.new.self c.in-Some.ensures.some
    (λ value of is. not_both c.is_number.result not ((c.is_number.ensures value of).1 is))

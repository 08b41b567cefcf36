use Rattle.std.proofs.Common.{rules, subst, sym}
use Rattle.std.proofs.lemmas.List.Sorted.{answers_always}
use Rattle.city_json.proofs.SortedNames.{precedes, TellsRise, differ_by_neighbours}
use Rattle.city_json.proofs.reading.names.are_apart_when_sorted.Goals as goal

pub returns : goal.returns
returns c = λ members are.
    let answer = c.is_sorted_by.ensures.cases precedes (answers_always _ _ _ (λ f pair r g called. search rules)) in
    differ_by_neighbours members c.args.listed.items _ _
    (sym are) c.sort_unstable.ensures.permutation c.sort_unstable.ensures.sorted
    (subst (TellsRise c.is_sorted_by.result) c.deref.ensures.value answer)

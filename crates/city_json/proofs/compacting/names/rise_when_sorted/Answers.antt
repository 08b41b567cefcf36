use Rattle.std.proofs.Common.{rules, subst}
use Rattle.std.proofs.lemmas.List.Sorted.{answers_always}
use Rattle.city_json.specs.NamePrint.{print_of}
use Rattle.city_json.proofs.NamesApart.{TellsRise, apart_when_rising, rises}
use Rattle.city_json.proofs.compacting.names.rise_when_sorted.Goals as goal

pub returns : goal.returns
returns c = λ rise members are.
    let answer = c.is_sorted_by.ensures.cases rises (answers_always _ _ _ (λ f pair r g called. search rules)) in
    apart_when_rising members print_of c.args.prints.items _ c.is_sorted_by.result are
    c.sort_unstable.ensures.permutation (subst (TellsRise c.is_sorted_by.result) c.deref.ensures.value answer) rise

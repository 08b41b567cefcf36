use Rattle.std.proofs.Common.{rules}
use Rattle.std.proofs.lemmas.List.Sorted.{answers_always}
use Rattle.cut_by_value.proofs.Tables.{found_place, no_place}
use Rattle.cut_by_value.proofs.objects.place.Goals as goal

pub returns-in-Ok : goal.returns-in-Ok
returns-in-Ok c = λ names table.
    let equal = c.in-Ok.ensures.position (λ pair. pair.0) (answers_always _ _ _ (λ f a r g called. search rules)) in
    found_place names _ c.args.name.now c.in-Ok.at _ table c.in-Ok.ensures.bound equal

pub returns-in-Err : goal.returns-in-Err
returns-in-Err c = λ names table.
    let parts = c.in-Err.ensures.position (λ pair. pair.0) (answers_always _ _ _ (λ f a r g called. search rules)) in
    no_place names _ c.args.name.now c.in-Err.field-0 table parts

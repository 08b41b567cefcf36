use Rattle.std.proofs.Common.{◌∙◌, option_map}
use Rattle.std.proofs.lemmas.Result.{err_from_is_err_and}
use Rattle.city_json.specs.TextPlace.{placed_text}
use Rattle.city_json.specs.declared.compacting.object.TextPlace.{TextPlace}
use Rattle.city_feature.proofs.EndedTexts.{is_some_mapped, own_refused_so, own_told}
use Rattle.city_feature.proofs.features.ended.own_is_wanted.Goals as goal

pub returns-in_err-given-clause-refused : goal.returns-in_err-given-clause-refused
returns-in_err-given-clause-refused c =
    let e = err_from_is_err_and c.from_residual.result c.from_residual.ensures.1 in
    rw (e.1, e.2) (λ end part. own_refused_so c.args.choice.now c.args.shift c.args.own.now end part
    c.in_err-given.field-0.0 c.in_err-given.ensures.refused)

pub returns-clause-ok : goal.returns-clause-ok
returns-clause-ok c = λ end part.
    let closed = c.closed_text.new.own in
    let placed = λ (place : TextPlace). placed_text place closed c.closed_text.new.buffers.text in
    own_told c.args.choice.now c.args.shift c.args.own.now end part closed c.in_ok-given.ensures.line
    (option_map placed c.in_ok-given.given) c.in_ok-given.ensures.ok c.is_some.result
    (c.is_some.ensures ∙ is_some_mapped placed c.in_ok-given.given)

use Rattle.std.proofs.Common.{◌∙◌, ap, option_map, subst, sym}
use Rattle.std.proofs.lemmas.Result.{err_from_is_err_and}
use Rattle.city_json.specs.TextPlace.{placed_text}
use Rattle.city_feature.specs.Choice.{IsChosen}
use Rattle.city_feature.specs.FeatureLine.{GivesFeature}
use Rattle.city_feature.proofs.EndedTexts.{given_closed, own_none, own_refused_so, own_some}
use Rattle.city_feature.proofs.features.ended.own_text.Goals as goal

pub returns-in_err-place-clause-refused : goal.returns-in_err-place-clause-refused
returns-in_err-place-clause-refused c =
    let e = err_from_is_err_and c.from_residual.result c.from_residual.ensures.1 in
    rw (e.1, e.2) (λ end part. own_refused_so c.args.choice.now c.args.shift c.args.own.now end part
    c.in_err-place.field-0.0 c.in_err-place.ensures.refused)

pub returns-in_default-clause-ok : goal.returns-in_default-clause-ok
returns-in_default-clause-ok c = λ end part.
    let closed = c.closed_text.new.own in
    own_none c.args.choice.now c.args.shift c.args.own.now end part closed c.in_ok-place.ensures.line
    (subst (λ o. GivesFeature (IsChosen c.args.choice.now) c.args.shift closed
    (option_map (λ place. placed_text place closed c.closed_text.new.buffers.text) o)) c.in_default.is
    c.in_ok-place.ensures.ok)

pub before_brace-requires : goal.before_brace-requires
before_brace-requires c =
    let closed = c.closed_text.new.own in
    let text = c.closed_text.new.buffers.text in
    let (front, is) = given_closed c.args.choice.now c.args.shift closed (placed_text c.in-Some.place closed text)
    (subst (λ o. GivesFeature (IsChosen c.args.choice.now) c.args.shift closed
    (option_map (λ place. placed_text place closed text) o)) c.in-Some.is c.in_ok-place.ensures.ok) in
    (front, c.bytes.ensures ∙ (ap (λ l. placed_text c.in-Some.place l text) c.items.ensures ∙ is))

pub returns-clause-ok : goal.returns-clause-ok
returns-clause-ok c = λ end part.
    let closed = c.closed_text.new.own in
    let text = c.closed_text.new.buffers.text in
    own_some c.args.choice.now c.args.shift c.args.own.now end part closed (placed_text c.in-Some.place closed text)
    c.in_ok-front.front c.in_ok-place.ensures.line
    (subst (λ o. GivesFeature (IsChosen c.args.choice.now) c.args.shift closed
    (option_map (λ place. placed_text place closed text) o)) c.in-Some.is c.in_ok-place.ensures.ok)
    (sym (c.bytes.ensures ∙ ap (λ l. placed_text c.in-Some.place l text) c.items.ensures) ∙ c.in_ok-front.ensures)

use Rattle.std.proofs.Common.{◌∙◌, inr, option_map, subst, IfOk}
use Rattle.std.proofs.lemmas.Result.{IfErr-weaker}
use Rattle.city_json.specs.TextPlace.{placed_text}
use Rattle.city_feature.specs.Choice.{IsChosen}
use Rattle.city_feature.specs.FeatureLine.{GivesFeature, RefusesFeatureLine}
use Rattle.city_feature.proofs.features.ended.closed_text.Goals as goal

pub returns-clause-ok : goal.returns-clause-ok
returns-clause-ok c =
    subst (λ closed. IfOk c.feature_text.result (λ given. GivesFeature (IsChosen c.args.choice.now) c.args.shift closed
    (option_map (λ place. placed_text place closed c.feature_text.new.text) given))) c.items-closed.ensures
    c.feature_text.ensures.ok

pub returns-clause-refused : goal.returns-clause-refused
returns-clause-refused c = IfErr-weaker c.feature_text.result _ _
    (λ fault refused. inr (subst (RefusesFeatureLine c.args.shift fault)
    (c.items-closed.ensures ∙ c.in_ok-append.ensures.ok) refused)) c.feature_text.ensures.refusal

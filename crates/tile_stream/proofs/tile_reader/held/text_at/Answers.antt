use Rattle.std.proofs.Common.{◌≡◌, ◌⊎◌, ◌++◌, option_map, sym, subst}
use Rattle.std.proofs.lemmas.Result.{IfErr-weaker, IfOk-weaker}
use Rattle.byte_streams.specs.declared.fault.Fault.TheVariants.{Memory}
use Rattle.city_feature.specs.Choice.{IsChosen}
use Rattle.city_feature.specs.FeatureLine.{GivesFeature, RefusesFeatureLine}
use Rattle.tile_stream.proofs.tile_reader.held.text_at.Goals as goal

pub returns-clause-ok : goal.returns-clause-ok
returns-clause-ok c =
    let common = c.args.held.now.common in
    let own = c.in_ok-take_own.ensures in
    IfOk-weaker c.own_text.result _ _ (λ given gives.
    subst (λ line. GivesFeature (IsChosen c.args.choice.now) c.args.shift line (option_map (λ front. front ++ common) given))
    (sym own.whole) (gives common own.part)) c.own_text.ensures.ok

pub returns-clause-refused : goal.returns-clause-refused
returns-clause-refused c =
    let own = c.in_ok-take_own.ensures in
    IfErr-weaker c.own_text.result _ _ (λ fault refused.
    subst (λ line. (fault ≡ Memory) ⊎ RefusesFeatureLine c.args.shift fault line) (sym own.whole)
    (refused c.args.held.now.common own.part)) c.own_text.ensures.refused

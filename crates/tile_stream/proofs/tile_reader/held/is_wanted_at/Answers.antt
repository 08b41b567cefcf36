use Rattle.std.proofs.Common.{◌⊎◌, ◌≡◌, sym, subst}
use Rattle.std.proofs.lemmas.Result.{IfErr-weaker, IfOk-weaker}
use Rattle.byte_streams.specs.declared.fault.Fault.TheVariants.{Memory}
use Rattle.city_feature.specs.Choice.{IsChosen}
use Rattle.city_feature.specs.FeatureLine.{RefusesFeatureLine, TellsWanted}
use Rattle.tile_stream.proofs.tile_reader.held.is_wanted_at.Goals as goal

pub returns-clause-ok : goal.returns-clause-ok
returns-clause-ok c =
    let own = c.in_ok-take_own.ensures in
    IfOk-weaker c.own_is_wanted.result _ _ (λ is told.
    subst (λ line. TellsWanted (IsChosen c.args.choice.now) c.args.shift line is) (sym own.whole)
    (told c.args.held.now.common own.part)) c.own_is_wanted.ensures.ok

pub returns-clause-refused : goal.returns-clause-refused
returns-clause-refused c =
    let own = c.in_ok-take_own.ensures in
    IfErr-weaker c.own_is_wanted.result _ _ (λ fault refused.
    subst (λ line. (fault ≡ Memory) ⊎ RefusesFeatureLine c.args.shift fault line) (sym own.whole)
    (refused c.args.held.now.common own.part)) c.own_is_wanted.ensures.refused

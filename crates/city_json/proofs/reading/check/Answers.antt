use Rattle.std.proofs.lemmas.Result.{IfOk-weaker}
use Rattle.city_json.proofs.reading.check.Goals as goal

pub returns-clause-taken : goal.returns-clause-taken
returns-clause-taken c =
    IfOk-weaker c.made_of.result _ _ (λ nothing made. (made.0, made.2, made.3, made.4)) c.made_of.ensures.value

use Rattle.std.proofs.lemmas.Result.{IfOk-weaker}
use Rattle.city_json.proofs.Texts.{IsTaken, answers_printed}
use Rattle.city_json.proofs.reading.read.Goals as goal

pub returns-clause-value : goal.returns-clause-value
returns-clause-value c = IfOk-weaker c.made_of.result _ (IsTaken c.args.bytes.now)
    (λ json made. rw made.1 (made.2, made.3, made.4)) c.made_of.ensures.value

pub returns-clause-printed : goal.returns-clause-printed
returns-clause-printed c = answers_printed c.args.bytes.now c.made_of.result (returns-clause-value c)
    c.made_of.ensures.refused

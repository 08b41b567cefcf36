use Rattle.city_json.proofs.PassScalars.{word_is}
use Rattle.city_json.proofs.compacting.scalars.word_end.Goals as goal

pub returns-then-starts_with-clause-is : goal.returns-then-starts_with-clause-is
returns-then-starts_with-clause-is c =
    word_is c.args.text.now c.args.word.now c.args.at c.starts_with.result c.starts_with.ensures.value
    c.if-starts_with.true

use Rattle.city_json.proofs.PassScalars.{unsigned_is}
use Rattle.city_json.proofs.compacting.scalars.decimal_end.Goals as goal

pub returns-then-at-whole-clause-is : goal.returns-then-at-whole-clause-is
returns-then-at-whole-clause-is c = λ some. unsigned_is c.args.text.now c.args.at c.integer_end-whole.result
    c.fraction_end.result c.integer_end-whole.ensures.onward c.fraction_end.ensures.onward
    (c.integer_end-whole.ensures.whole c.if-at-whole.true) c.fraction_end.ensures.is

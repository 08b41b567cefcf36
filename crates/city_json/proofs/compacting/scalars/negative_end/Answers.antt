use Rattle.std.proofs.Common.{arith}
use Rattle.city_json.proofs.PassScalars.{negative_is}
use Rattle.city_json.proofs.compacting.scalars.negative_end.Goals as goal

pub returns-clause-is : goal.returns-clause-is
returns-clause-is c = λ some. negative_is c.args.text.now c.args.at c.integer_end-whole.result c.fraction_end.result
    c.requires.within c.requires.signed c.integer_end-whole.ensures.onward c.fraction_end.ensures.onward
    (c.integer_end-whole.ensures.whole (omega arith)) c.fraction_end.ensures.is

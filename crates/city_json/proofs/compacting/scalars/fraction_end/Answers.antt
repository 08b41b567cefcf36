use Rattle.std.proofs.Common.{arith}
use Rattle.city_json.proofs.PassScalars.{fraction_is}
use Rattle.city_json.proofs.compacting.scalars.fraction_end.Goals as goal

pub returns-clause-is : goal.returns-clause-is
returns-clause-is c = fraction_is c.args.text.now c.args.at c.digits_end-end.result (omega arith)
    c.if-text-at-ne46.false (omega arith) c.digits_end-end.ensures.within c.digits_end-end.ensures.passed

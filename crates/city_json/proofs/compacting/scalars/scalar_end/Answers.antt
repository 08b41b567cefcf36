use Rattle.city_json.proofs.Options.{if_some_more}
use Rattle.city_json.proofs.PassScalars.{false_is, null_is, true_is}
use Rattle.city_json.proofs.compacting.scalars.scalar_end.Goals as goal

pub returns-in-110-clause-is : goal.returns-in-110-clause-is
returns-in-110-clause-is c = if_some_more c.word_end.result (null_is c.args.text.now c.args.at) c.word_end.ensures.is

pub returns-in-116-clause-is : goal.returns-in-116-clause-is
returns-in-116-clause-is c = if_some_more c.word_end-in-116.result
    (true_is c.args.text.now c.args.at) c.word_end-in-116.ensures.is

pub returns-in-102-clause-is : goal.returns-in-102-clause-is
returns-in-102-clause-is c = if_some_more c.word_end-in-102.result
    (false_is c.args.text.now c.args.at) c.word_end-in-102.ensures.is

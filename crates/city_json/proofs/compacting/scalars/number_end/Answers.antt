use Rattle.city_json.proofs.PassScalars.{number_is}
use Rattle.city_json.proofs.compacting.scalars.number_end.Goals as goal

pub returns-clause-onward : goal.returns-clause-onward
returns-clause-onward c = (number_is c.args.text.now c.in_ok-found.found.now _ c.args.at c.in_ok-found.ensures).0

pub returns-clause-is : goal.returns-clause-is
returns-clause-is c = (number_is c.args.text.now c.in_ok-found.found.now _ c.args.at c.in_ok-found.ensures).1

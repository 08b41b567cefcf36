use Rattle.city_json.proofs.TripleSums.{one_on_is}
use Rattle.city_json.proofs.compacting.triples.one_on.Goals as goal

pub returns : goal.returns
returns c = one_on_is c.args.marks

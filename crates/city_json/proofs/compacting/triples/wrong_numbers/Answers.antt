use Rattle.city_json.proofs.TripleSums.{numbers_fit}
use Rattle.city_json.proofs.compacting.triples.wrong_numbers.Goals as goal

pub returns : goal.returns
returns c =
    let kinds = c.args.kinds in
    let numbers = c.args.numbers in
    numbers_fit kinds.digits kinds.zeros kinds.minuses kinds.opens numbers.inner numbers.starts c.one_on.result
    c.difference.result c.difference-empty.result c.difference-bare.result c.one_on-2.result c.long_runs.result
    c.one_on.ensures c.difference.ensures c.difference-empty.ensures c.difference-bare.ensures c.one_on-2.ensures
    c.long_runs.ensures

use Rattle.city_json.proofs.TripleSums.{ends_fit}
use Rattle.city_json.proofs.compacting.triples.wrong_ends.Goals as goal

pub returns : goal.returns
returns c =
    let kinds = c.args.kinds in
    let ends = c.args.ends in
    ends_fit kinds.commas kinds.opens kinds.closes ends.first ends.second ends.third c.one_on.result c.one_on-2.result
    c.one_on-3.result c.difference-no_comma.result c.difference-no_close.result c.difference-no_more.result c.difference.result
    c.one_on.ensures c.one_on-2.ensures c.one_on-3.ensures c.difference-no_comma.ensures c.difference-no_close.ensures
    c.difference-no_more.ensures c.difference.ensures

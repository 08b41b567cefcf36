use Rattle.city_json.proofs.TripleSums.{without_is}
use Rattle.city_json.proofs.compacting.triples.difference.Goals as goal

pub returns : goal.returns
returns c = without_is c.args.marks c.args.others c.ranges.others.fits

use Rattle.city_json.proofs.TripleSums.{nothing_before}
use Rattle.city_json.proofs.compacting.triples.before_wrong.Goals as goal

pub returns : goal.returns
returns c = nothing_before c.args.marks c.args.wrong c.ranges.wrong.fits

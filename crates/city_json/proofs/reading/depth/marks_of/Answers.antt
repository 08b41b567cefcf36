use Rattle.city_json.proofs.BlockLemmas.{marks_of_one}
use Rattle.city_json.proofs.reading.depth.marks_of.Goals as goal

pub returns : goal.returns
returns c = marks_of_one c.args.block c.args.byte c.fits-block.0

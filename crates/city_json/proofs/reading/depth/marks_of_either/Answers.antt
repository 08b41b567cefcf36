use Rattle.city_json.proofs.BlockLemmas.{marks_are}
use Rattle.city_json.proofs.reading.depth.marks_of_either.Goals as goal

pub returns : goal.returns
returns c = marks_are c.args.block c.args.one c.args.other c.fits-block.0

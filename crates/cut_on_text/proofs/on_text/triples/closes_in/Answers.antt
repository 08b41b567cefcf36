use Rattle.city_json.proofs.BlockLemmas.{marks_of_one}
use Rattle.city_json.specs.Bytes.{close_bracket}
use Rattle.cut_on_text.proofs.on_text.triples.closes_in.Goals as goal

pub returns : goal.returns
returns c = marks_of_one c.args.block close_bracket c.fits-block.0

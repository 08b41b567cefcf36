use Rattle.city_json.proofs.WholeMasks.{digit_marks_are}
use Rattle.city_json.proofs.compacting.whole_arrays.digit_marks.Goals as goal

pub returns : goal.returns
returns c = digit_marks_are c.args.block c.fits-block.0

use Rattle.std.proofs.Common.{arith}
use Rattle.city_json.proofs.ArrayEnds.{front_closes}
use Rattle.city_json.proofs.compacting.whole_arrays.closing_len.Goals as goal

pub returns-clause-closes : goal.returns-clause-closes
returns-clause-closes c =
    let marks = c.marks_in-marks.result in
    let ends = c.closes_at.ensures c.if-not-closes_at.false c.args.block c.fits-block.0 c.marks_in-marks.ensures.opens
    c.marks_in-marks.ensures.closes in
    front_closes c.args.block c.args.from.depth c.args.from.room c.front_len-len.result c.args.before marks.opens
    c.args.from.zeroed c.fits-block.0 (omega (arith, c.if-len-eq0.false))
    (omega (arith, c.front_len-len.ensures, c.if-len-eq64.false)) c.requires.place
    (c.is_front_fine.ensures c.if-not-is_front_fine.false) ends.0 ends.1 c.marks_in-marks.ensures.opens
    (omega (arith, c.if-marks-len.false))

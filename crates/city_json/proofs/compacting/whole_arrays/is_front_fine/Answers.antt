use Rattle.city_json.proofs.ArrayEnds.{front_fine}
use Rattle.city_json.proofs.WholeMasks.{lag_as}
use Rattle.city_json.proofs.compacting.whole_arrays.is_front_fine.Goals as goal

pub returns : goal.returns
returns c = λ _.
    let marks = c.args.marks in
    front_fine c.args.before c.args.zeroed c.args.block c.fits-block.0 marks.digits marks.commas marks.opens
    marks.closes c.marks_of.result c.lag.result c.lag-2.result c.lag-3.result c.lag-4.result c.lag-5.result
    c.lag-6.result
    c.requires.digits c.requires.commas c.requires.opens c.requires.closes c.marks_of.ensures
    (lag_as _ _ _ _ c.leads_item.ensures c.lag.ensures)
    c.args.len c.requires.few
    c.if-digits-commas.false
    c.lag-2.ensures c.if-lag-commas-ne0.false
    c.lag-3.ensures c.if-lag-digits-ne0.false
    c.lag-4.ensures c.if-lag-commas-ne0-2.false
    (lag_as _ _ _ _ c.is_digit_byte.ensures c.lag-5.ensures) c.if-lag-opens-ne0.false
    c.lag-6.ensures c.if-lag-digits-ne0-2.false

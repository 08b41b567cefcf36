use Rattle.city_json.proofs.WholeMasks.{fine_is, ends_zeroed, lag_as}
use Rattle.city_json.proofs.compacting.whole_arrays.brackets_of.Goals as goal

pub returns-clause-fine : goal.returns-clause-fine
returns-clause-fine c =
    fine_is c.args.before c.args.zeroed c.args.block c.fits-block.0 c.digit_marks-digits.result c.marks_of-commas.result
    c.marks_of-opens.result c.marks_of-closes.result c.marks_of.result c.lag.result c.lag-2.result c.lag-3.result
    c.lag-4.result c.lag-5.result c.lag-6.result
    c.digit_marks-digits.ensures c.marks_of-commas.ensures c.marks_of-opens.ensures c.marks_of-closes.ensures
    c.marks_of.ensures
    (lag_as _ _ _ _ c.leads_item.ensures c.lag.ensures)
    c.if-digits-commas.false
    c.lag-2.ensures c.if-lag-commas-ne0.false
    c.lag-3.ensures c.if-lag-digits-ne0.false
    c.lag-4.ensures c.if-lag-commas-ne0-2.false
    (lag_as _ _ _ _ c.is_digit_byte.ensures c.lag-5.ensures) c.if-lag-opens-ne0.false
    c.lag-6.ensures c.if-lag-digits-ne0-2.false

pub returns-clause-zeroed : goal.returns-clause-zeroed
returns-clause-zeroed c =
    ends_zeroed c.args.before c.args.zeroed c.args.block c.fits-block.0 c.digit_marks-digits.result
    c.marks_of-commas.result c.marks_of-opens.result c.marks_of-closes.result c.marks_of.result c.lag.result 0 0 0 0
    0
    c.digit_marks-digits.ensures c.marks_of-commas.ensures c.marks_of-opens.ensures c.marks_of-closes.ensures
    c.marks_of.ensures
    (lag_as _ _ _ _ c.leads_item.ensures c.lag.ensures)

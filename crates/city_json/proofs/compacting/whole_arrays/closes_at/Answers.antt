use Rattle.std.proofs.Common.{◌+◌, arith, length-take, take}
use Rattle.city_json.proofs.ArrayEnds.{opens_in_front, closes_in_front, marks_in_front}
use Rattle.city_json.proofs.WholeMasks.{is_open, is_close_bracket}
use Rattle.city_json.proofs.compacting.whole_arrays.closes_at.Goals as goal

pub returns : goal.returns
returns c = λ yes bytes long is_up is_down.
    let last = c.args.last in
    let up = opens_in_front bytes (last + 1) c.args.opens (omega (arith, c.requires.few)) is_up in
    let down = closes_in_front bytes (last + 1) c.args.closes (omega (arith, c.requires.few)) is_down in (
      c.stays_open.ensures yes (take last bytes) (omega (arith, length-take last bytes, long))
          (marks_in_front is_open bytes last c.args.opens (omega (arith, c.requires.few)) is_up)
          (marks_in_front is_close_bracket bytes last c.args.closes (omega (arith, c.requires.few)) is_down),
      omega (arith, c.if-depth-opened.false, up, down),
    )

use Rattle.std.proofs.Common.{arith, subst, get_or, ◌-◌}
use Rattle.city_json.specs.Whole.{Closes, stage_of}
use Rattle.city_json.proofs.ArrayEnds.{front_of_chunk}
use Rattle.city_json.proofs.compacting.whole_arrays.closing_end.Goals as goal

pub returns-clause-closes : goal.returns-clause-closes
returns-clause-closes c =
    let text = c.args.text.now in
    let at = c.args.at in
    let len = c.in_ok-len.len in
    subst (Closes c.args.from.depth c.args.from.room (stage_of (get_or text (at - 1) 0) c.args.from.zeroed))
    (front_of_chunk text at len (omega (arith, c.if-text-at-lt64.false, c.requires.within))
    c.in_ok-len.ensures.within) c.in_ok-len.ensures.closes

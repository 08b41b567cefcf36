use Rattle.std.proofs.Common.{ap, arith, length, length-append}
use Rattle.city_families.proofs.reach.note_row.Goals as goal

pub overflow_sub-result : goal.overflow_sub-result
overflow_sub-result c =
    let g = c.in_ok-note_all.ensures.ok in
    omega (arith, ap length g.found_is, length-append c.args.found.now.items g.more)

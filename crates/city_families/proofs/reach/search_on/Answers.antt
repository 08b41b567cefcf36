use Rattle.std.proofs.Common.{length, arith}
use Rattle.city_families.proofs.Growth.{searches_start, searches_step, searches_all, searches_marked, found_within, rows_within}
use Rattle.city_families.proofs.reach.search_on.Goals as goal

pub loop-at-init : goal.loop-at-init
loop-at-init c = searches_start c.args.graph.now c.args.found.now.items c.args.mark c.args.marks.now c.requires.found

pub row-requires : goal.row-requires
row-requires c =
    let below = found_within _ _ _ _ _ _ _ _ c.loop-at.invariant (omega arith) c.index-next.ensures in
    omega (arith, below, c.requires.marks)

pub note_row-requires : goal.note_row-requires
note_row-requires c =
    let all = rows_within c.args.graph.now (length c.args.graph.now) c.index-next.result.now c.row.result.now
    c.requires.graph c.row.ensures in
    rw (c.loop-at.invariant.long, c.requires.marks) all

pub loop-at-preserved : goal.loop-at-preserved
loop-at-preserved c = searches_step _ _ _ _ _ _ _ _ _ _ _ c.loop-at.invariant (omega arith) c.index-next.ensures
    c.row.ensures c.in_ok-note_row.ensures.ok

pub returns-clause-ok : goal.returns-clause-ok
returns-clause-ok c = λ k. searches_all _ _ _ _ _ _ _ k c.loop-at.invariant (omega arith)

pub returns-clause-marks : goal.returns-clause-marks
returns-clause-marks c = λ k. searches_marked _ _ _ _ _ _ _ k c.loop-at.invariant (omega arith)

use Rattle.std.proofs.Common.{rules, arith}
use Rattle.city_families.specs.Relabelling.{own_text}
use Rattle.city_families.specs.Leaves.{relabelled}
use Rattle.cut_by_value.proofs.Copies.{copied_more, relabelled_all}
use Rattle.cut_by_value.proofs.relabelling.+relabel.Goals as goal

pub relabelled_items-loop-item-preserved : goal.relabelled_items-loop-item-preserved
relabelled_items-loop-item-preserved t c =
    copied_more (relabelled (own_text c.args.table.now)) c.args.items.now c.loop-item.copies.items _
    c.loop-item.item-index c.item-item.result c.in_ok-relabelled.field-0 c.loop-item.invariant (omega arith)
    c.item-item.is c.in_ok-relabelled.ensures.ok (search rules)

pub relabelled_items-returns-clause-ok : goal.relabelled_items-returns-clause-ok
relabelled_items-returns-clause-ok t c = relabelled_all (own_text c.args.table.now) c.args.items.now
    c.loop-item.copies.items c.loop-item.item-index c.loop-item.invariant c.loop-item-test.false

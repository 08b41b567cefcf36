use Rattle.city_families.proofs.Seeking.{listed_more, listed_none, listed_on}
use Rattle.city_families.proofs.families.list_beginners.Goals as goal

pub loop-at-init : goal.loop-at-init
loop-at-init c = listed_none c.args.parents.now c.args.marks.now c.args.found.now.items c.requires.long
    c.requires.unmarked c.requires.none

pub loop-at-preserved-then-parents-at : goal.loop-at-preserved-then-parents-at
loop-at-preserved-then-parents-at c =
    listed_on c.args.parents.now c.loop-at.at _ c.loop-at.marks c.loop-at.found.items c.loop-at.invariant
    c.loop-at-test.true c.if-parents-at.true

pub loop-at-preserved : goal.loop-at-preserved
loop-at-preserved c =
    listed_more c.args.parents.now c.loop-at.at _ c.loop-at.marks c.note.new.marks c.loop-at.found.items
    c.note.new.found.items c.loop-at.invariant c.loop-at-test.true c.if-parents-at.false c.in_ok-note.ensures.first

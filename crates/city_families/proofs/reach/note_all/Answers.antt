use Rattle.std.proofs.Common.{arith}
use Rattle.city_families.proofs.Growth.{grows_more}
use Rattle.city_families.proofs.reach.note_all.Goals as goal

pub loop-one-preserved : goal.loop-one-preserved
loop-one-preserved c =
    grows_more c.args.root c.args.new.now _ _ _ _ _ _ c.loop-one.one-index c.loop-one.invariant (omega arith)
    (c.requires c.loop-one.one-index 0 (omega arith)) c.in_ok-note.ensures.again c.in_ok-note.ensures.first

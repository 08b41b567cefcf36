use Rattle.std.proofs.Common.{◌∙◌, arith}
use Rattle.cut_on_text.proofs.KeptPlaces.{kept_all, kept_none, kept_one, kept_past}
use Rattle.cut_on_text.proofs.on_text.made.keep_chosen.Goals as goal

pub loop-at-init : goal.loop-at-init
loop-at-init c = kept_none c.args.chosen.now c.args.roots.now.items

pub loop-at-preserved-then-not-chosen-at : goal.loop-at-preserved-then-not-chosen-at
loop-at-preserved-then-not-chosen-at c =
    kept_past c.args.chosen.now c.loop-at.at c.args.roots.now.items c.loop-at.roots.items c.loop-at.kept
    c.loop-at.invariant (omega (arith, c.loop-at-test.true, c.min-count.ensures, c.len.ensures))
    (omega (arith, c.loop-at-test.true, c.min-count.ensures, c.len.ensures)) c.if-not-chosen-at.true

pub loop-at-preserved : goal.loop-at-preserved
loop-at-preserved c =
    kept_one c.args.chosen.now c.loop-at.at c.args.roots.now.items c.loop-at.roots.items c.loop-at.kept
    c.loop-at.invariant (omega (arith, c.loop-at-test.true, c.min-count.ensures, c.len.ensures))
    (omega (arith, c.loop-at-test.true, c.min-count.ensures, c.len.ensures)) c.if-not-chosen-at.false
    c.index.result.now c.index.ensures

pub returns : goal.returns
returns c = c.truncate.ensures.items
    ∙ kept_all c.args.chosen.now c.loop-at.at c.args.roots.now.items c.loop-at.roots.items c.loop-at.kept
    c.loop-at.invariant (omega (arith, c.loop-at-test.false, c.min-count.ensures, c.len.ensures))

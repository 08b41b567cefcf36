use Rattle.std.proofs.Common.{◌+◌, drop, subst}
use Rattle.std.proofs.lemmas.List.{drop_more}
use Rattle.cut_on_text.specs.Bounds.{AreBounds}
use Rattle.cut_on_text.proofs.on_text.bounds.wrong_byte.Goals as goal

pub returns-in_default : goal.returns-in_default
returns-in_default c = λ all. c.in_default.ensures.none (drop (c.loop-byte.byte-index + 1) c.args.text.now)
    (subst (AreBounds c.args.count c.loop-byte.value)
    (drop_more c.args.text.now c.loop-byte.byte-index _ c.loop-byte-test.true) (c.loop-byte.invariant.on all))

pub loop-byte-preserved : goal.loop-byte-preserved
loop-byte-preserved c = record {
  small = c.in-Some.ensures.small;
  on = λ all. c.in-Some.ensures.on (drop (c.loop-byte.byte-index + 1) c.args.text.now)
      (subst (AreBounds c.args.count c.loop-byte.value)
      (drop_more c.args.text.now c.loop-byte.byte-index _ c.loop-byte-test.true) (c.loop-byte.invariant.on all));
}

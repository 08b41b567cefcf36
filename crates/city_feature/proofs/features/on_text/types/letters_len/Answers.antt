use Rattle.std.proofs.Common.{arith}
use Rattle.city_feature.proofs.features.FirstTypes.{letters_more}
use Rattle.city_feature.proofs.features.on_text.types.letters_len.Goals as goal

pub loop-end-preserved : goal.loop-end-preserved
loop-end-preserved c = record {
  within = omega (arith, c.loop-end-test.true);
  letters = letters_more c.args.text.now c.loop-end.end c.loop-end-test.true c.loop-end.invariant.letters
      (c.is_letter.ensures c.if-is_letter.true);
}

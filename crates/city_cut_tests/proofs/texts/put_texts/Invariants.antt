use Rattle.std.proofs.Common.{◌≡◌}
use Rattle.city_cut_tests.proofs.texts.put_texts.Given as goal

abbrev pub invariant-loop-at : goal.invariant-loop-at
invariant-loop-at l = record {
  same : l.cut.texts ≡ l.fn.cut.texts;
}

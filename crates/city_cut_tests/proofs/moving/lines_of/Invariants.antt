use Rattle.std.proofs.Common.{◌≡◌}
use Rattle.city_cut_tests.proofs.moving.lines_of.Given as goal

abbrev pub invariant-loop-at : goal.invariant-loop-at
invariant-loop-at l = record {
  same : l.texts ≡ l.fn.texts;
}

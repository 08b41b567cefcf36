-- What one write took stands after what the earlier ones took.
use Rattle.std.proofs.Common.{arith}
use Rattle.std.proofs.Math.Seq.{take-add}
use Rattle.std.proofs.KnownBytes.{Appends-trans}
use Rattle.std.proofs.lemmas.Grind.{common_steps}
use Rattle.std.proofs.lemmas.List.{take_rest}
use Rattle.std.proofs.lemmas.Bool.Decides.{nat_tests}
use Rattle.byte_streams.proofs.output.write_all.Goals as goal

pub pieces-preserved : goal.pieces-preserved
pieces-preserved g c = record {
  within = grind (arith, common_steps);
  taken = rw take-add (Appends-trans _ _ _ _ _ c.pieces.invariant.taken (rw take_rest at c.in_ok-count.ensures.bytes));
  none_failed = grind (arith, nat_tests, c.in_ok-count.ensures.failures);
}

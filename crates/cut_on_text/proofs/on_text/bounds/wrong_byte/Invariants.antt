use Rattle.std.proofs.Common.{◌<◌, ◌^◌, drop}
use Rattle.cut_on_text.specs.Bounds.{AreBounds}
use Rattle.cut_on_text.proofs.on_text.bounds.wrong_byte.Given as goal

abbrev pub invariant-loop-byte : goal.invariant-loop-byte
invariant-loop-byte l = record {
  small : l.value < 2 ^ 64;
  on : AreBounds l.count 0 l.text → AreBounds l.count l.value (drop l.byte-index l.text);
}

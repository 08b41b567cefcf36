use Rattle.std.proofs.Common.{◌≡◌, ◌<◌, ◌⊎◌, take}
use Rattle.std.specs.Str.Parse.{AllDigits, digits_value}
use Rattle.cut_by_value.proofs.leaves.index.Given as goal

abbrev pub invariant-loop-byte : goal.invariant-loop-byte
invariant-loop-byte l =
    record {
      digits : AllDigits 10 (take l.byte-index l.text);
      value : l.value ≡ digits_value 10 (take l.byte-index l.text);
      below : (l.byte-index ≡ 0) ⊎ (l.value < l.count);
    }

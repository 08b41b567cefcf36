use Rattle.std.proofs.Common.{◌≤◌, ◌-◌, length, take}
use Rattle.city_feature.specs.LineTexts.{AreLetters}
use Rattle.city_feature.proofs.features.on_text.types.letters_len.Given as goal

abbrev pub invariant-loop-end : goal.invariant-loop-end
invariant-loop-end l = record {
  within : l.end ≤ length l.text;
  letters : AreLetters (take l.end l.text);
}

abbrev pub decreases-loop-end : goal.decreases-loop-end
decreases-loop-end l = length l.text - l.end

use Rattle.std.proofs.Common.{◌≡◌, ◌++◌, ◌∷◌, ◌≤◌, ◌-◌, ℕ, List, length, drop}
use Rattle.std.specs.List.{flat_map}
use Rattle.city_json.specs.Bytes.{quotation_mark}
use Rattle.city_json.specs.Compact.{written}
use Rattle.city_json.proofs.compacting.ends.string_end.Given as goal

abbrev pub invariant-loop-i : goal.invariant-loop-i
invariant-loop-i l = record {
  onward : l.at ≤ l.i;
  within : l.i ≤ length l.text;
  goes_on : (content rest : List ℕ) → drop l.at l.text ≡ flat_map written content ++ quotation_mark ∷ rest
      → (left : List ℕ) × (drop l.i l.text ≡ flat_map written left ++ quotation_mark ∷ rest);
}

abbrev pub decreases-loop-i : goal.decreases-loop-i
decreases-loop-i l = length l.text - l.i

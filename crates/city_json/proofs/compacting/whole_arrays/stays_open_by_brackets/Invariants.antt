use Rattle.std.proofs.Common.{◌≡◌, ◌≤◌, ◌+◌, ◌*◌, ℕ, List, length, map}
use Rattle.std.specs.Simd.Lanes.{mask_l}
use Rattle.city_json.specs.Whole.{StaysOpen}
use Rattle.city_json.proofs.WholeMasks.{is_open, is_close_bracket}
use Rattle.city_json.proofs.compacting.whole_arrays.stays_open_by_brackets.Given as goal

abbrev pub invariant-rounds : goal.invariant-rounds
invariant-rounds l = record {
  few : l.left ≤ 2000 + 64 * l.round;
  goes_on : (bytes : List ℕ) → length bytes ≤ 64 → l.opens ≡ mask_l (map is_open bytes)
      → l.closes ≡ mask_l (map is_close_bracket bytes)
      → (rest : List ℕ) × (length rest ≤ 64) × (l.up ≡ mask_l (map is_open rest))
      × (l.down ≡ mask_l (map is_close_bracket rest)) × (StaysOpen l.left rest → StaysOpen l.depth bytes);
}

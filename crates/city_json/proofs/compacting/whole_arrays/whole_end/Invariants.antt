use Rattle.std.proofs.Common.{◌≡◌, ◌≤◌, ◌<◌, ◌+◌, ◌-◌, ◌++◌, ℕ, List, length, get_or, slice_range, false, true}
use Rattle.city_json.specs.Whole.{Closes, stage_of, is_place}
use Rattle.city_json.proofs.compacting.whole_arrays.whole_end.Given as goal

abbrev pub invariant-bytes : goal.invariant-bytes
invariant-bytes l = record {
  onward : l.at ≤ l.i;
  within : l.i ≤ length l.text;
  depth : 0 < l.place.depth;
  sum : l.place.depth + l.place.room ≡ 1 + l.levels;
  placed : is_place (get_or l.text (l.i - 1) 0) ≡ true;
  goes_on : (further : List ℕ) → Closes l.place.depth l.place.room
      (stage_of (get_or l.text (l.i - 1) 0) l.place.zeroed) further
      → Closes 1 l.levels (stage_of (get_or l.text (l.at - 1) 0) false) (slice_range l.text l.at l.i ++ further);
}

abbrev pub decreases-bytes : goal.decreases-bytes
decreases-bytes l = length l.text - l.i

use Rattle.std.proofs.Common.{◌≤◌, ◌+◌, ◌-◌, length, slice_range}
use Rattle.city_json.specs.TriplesFound.{PassesTriples}
use Rattle.city_json.proofs.compacting.triples.look_at_triples.Given as goal

abbrev pub invariant-fronts : goal.invariant-fronts
invariant-fronts l = record {
  onward : l.at + 1 ≤ l.i;
  within : l.i ≤ length l.text;
  passed : PassesTriples (slice_range l.text (l.at + 1) l.i);
}

abbrev pub decreases-fronts : goal.decreases-fronts
decreases-fronts l = length l.text - l.i

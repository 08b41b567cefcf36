use Rattle.std.proofs.Common.{◌++◌, ◌≤◌, ◌+◌, ◌-◌, slice_range}
use Rattle.cut_on_text.specs.TripleStarts.{starts_after_closes}
use Rattle.cut_on_text.proofs.TripleStarts.{IsPlace}
use Rattle.cut_on_text.proofs.on_text.triples.push_block.Given as goal

abbrev pub invariant-closes : goal.invariant-closes
invariant-closes l = record {
  onward : l.at ≤ l.place;
  place : IsPlace l.text (l.at + 64) l.closes l.place l.starts.items
      (l.fn.starts.items ++ starts_after_closes l.at (slice_range l.text l.at (l.at + 64)));
}

abbrev pub decreases-closes : goal.decreases-closes
decreases-closes l = l.at + 64 - l.place

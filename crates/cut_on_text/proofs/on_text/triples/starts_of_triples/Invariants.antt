use Rattle.std.proofs.Common.{◌≤◌, ◌-◌}
use Rattle.cut_on_text.proofs.TripleStarts.{GoesOn}
use Rattle.cut_on_text.proofs.on_text.triples.starts_of_triples.Given as goal

abbrev pub invariant-blocks-2 : goal.invariant-blocks-2
invariant-blocks-2 l = record {
  within : l.at ≤ l.last;
  goes_on : GoesOn l.text l.last l.at l.starts.items;
}

abbrev pub decreases-blocks-2 : goal.decreases-blocks-2
decreases-blocks-2 l = l.last - l.at

abbrev pub invariant-bytes : goal.invariant-bytes
invariant-bytes l = record {
  within : l.at ≤ l.last;
  goes_on : GoesOn l.text l.last l.at l.starts.items;
}

abbrev pub decreases-bytes : goal.decreases-bytes
decreases-bytes l = l.last - l.at

use Rattle.std.proofs.Common.{◌≡◌, ◌≤◌, ◌<◌, ℕ, true, slice_index}
use Rattle.tile_stream.specs.Whole.{is_blank_or_newline}
use Rattle.tile_stream.proofs.lines.read_ahead.full_end.Given as goal

abbrev pub invariant-bytes : goal.invariant-bytes
invariant-bytes l = record {
  within : l.at ≤ l.end;
  white : (i : ℕ) → l.at ≤ i → i < l.end → is_blank_or_newline (slice_index l.bytes i) ≡ true;
}

abbrev pub decreases-bytes : goal.decreases-bytes
decreases-bytes l = l.at

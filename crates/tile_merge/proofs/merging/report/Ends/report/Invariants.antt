use Rattle.std.proofs.Common.{◌≡◌, ◌≤◌, length, take, vec_len, vec_capacity}
use Rattle.tile_merge.specs.EndNotes.{totals_in}
use Rattle.tile_merge.proofs.merging.report.Ends.report.Given as goal

-- the counts of the ends so far, and room for the others
abbrev pub invariant-loop-end : goal.invariant-loop-end
invariant-loop-end l = (l.counts.items ≡ totals_in (take l.end-index l.end-items)) × (vec_len l.counts ≡ l.end-index)
    × (length l.end-items ≤ vec_capacity l.counts)

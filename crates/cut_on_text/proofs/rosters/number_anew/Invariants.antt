use Rattle.std.proofs.Common.{◌≡◌, ◌<◌, ℕ, length}
use Rattle.std.specs.List.{slice_index}
use Rattle.cut_on_text.proofs.rosters.number_anew.Given as goal

-- those so far have their places
abbrev pub invariant-loop-place : goal.invariant-loop-place
invariant-loop-place l = record {
  long : length l.table ≡ length l.initial.table;
  placed : (j : ℕ) → j < l.place → slice_index l.table (slice_index l.order j) ≡ j;
}

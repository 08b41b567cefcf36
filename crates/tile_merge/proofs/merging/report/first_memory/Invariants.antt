use Rattle.std.proofs.Common.{◌≡◌, ◌+◌, drop}
use Rattle.tile_merge.specs.Told.{is_memory}
use Rattle.tile_merge.proofs.Telling.{TellsOn}
use Rattle.tile_merge.proofs.merging.report.first_memory.Given as goal

-- what the ends that are left tell is told
abbrev pub invariant-loop-end : goal.invariant-loop-end
invariant-loop-end l =
    record {
      counted : l.tile ≡ l.end-index;
      told : TellsOn is_memory (l.tile + 1) (drop l.end-index l.ends) l.ends;
    }

use Rattle.std.proofs.Common.{◌≡◌, ◌+◌, drop, true}
use Rattle.tile_merge.proofs.Telling.{TellsOn}
use Rattle.tile_merge.proofs.merging.report.first_stop.Given as goal

-- what the ends that are left tell is told
abbrev pub invariant-loop-end : goal.invariant-loop-end
invariant-loop-end l =
    record {
      counted : l.tile ≡ l.end-index;
      told : TellsOn (λ fault. true) (l.tile + 1) (drop l.end-index l.ends) l.ends;
    }

use Rattle.std.proofs.Common.{◌+◌, sym, ◌∙◌, ap}
use Rattle.tile_merge.specs.Told.{is_memory}
use Rattle.tile_merge.proofs.Telling.{tells_none, tells_on, tells_on_other, tells_this, same_memory}
use Rattle.tile_merge.proofs.merging.report.first_memory.Goals as goal
use Rattle.tile_merge.proofs.merging.report.first_memory.Goals.{in-Some+else-eq, in_default}

pub returns-then-eq : goal.returns-then-eq
returns-then-eq c =
    let at = c.in-Some.at in
    let holds = sym (c.if-eq.ensures ∙ same_memory at.fault) in
    tells_this is_memory (c.loop-end.tile + 1) c.args.ends.now c.loop-end.end-index c.loop-end.invariant.told
    c.loop-end-test.true at c.in-Some.is holds c.of_tile.result c.of_tile.ensures

pub loop-end-preserved : goal.loop-end-preserved
loop-end-preserved c =
    let ends = c.args.ends.now in
    let index = c.loop-end.end-index in
    let next = c.loop-end.tile + 1 in
    let told = c.loop-end.invariant.told in
    let within = c.loop-end-test.true in
    let counted = ap (λ n. n + 1) c.loop-end.invariant.counted in
    elim c.match-end.branch [
      | in-Some+else-eq w ↦
          (let at = w.in-Some.at in
          let fails = sym (w.if-eq.ensures ∙ same_memory at.fault) in
          let onward = tells_on_other is_memory next ends index told within at w.in-Some.is fails in
          record { counted = counted; told = onward })
      | in_default w ↦
          record { counted = counted; told = tells_on is_memory next ends index told within w.in_default.is }
    ]

pub returns : goal.returns
returns c = tells_none is_memory (c.loop-end.tile + 1) c.args.ends.now c.loop-end.end-index c.loop-end.invariant.told
    c.loop-end-test.false

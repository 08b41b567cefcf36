use Rattle.std.proofs.Common.{◌+◌, Bool, true, refl, ap}
use Rattle.byte_streams.specs.declared.fault.Fault.{Fault}
use Rattle.tile_merge.proofs.Telling.{tells_none, tells_on, tells_this}
use Rattle.tile_merge.proofs.merging.report.first_stop.Goals as goal

abbrev any : Fault → Bool
any fault = true

pub returns-in-Some : goal.returns-in-Some
returns-in-Some c =
    tells_this any (c.loop-end.tile + 1) c.args.ends.now c.loop-end.end-index c.loop-end.invariant.told
    c.loop-end-test.true c.in-Some.at c.in-Some.is refl c.of_tile.result
    c.of_tile.ensures

pub loop-end-preserved : goal.loop-end-preserved
loop-end-preserved c =
    record {
      counted = ap (λ n. n + 1) c.loop-end.invariant.counted;
      told = tells_on any (c.loop-end.tile + 1) c.args.ends.now c.loop-end.end-index c.loop-end.invariant.told
          c.loop-end-test.true c.in_default.is;
    }

pub returns : goal.returns
returns c = tells_none any (c.loop-end.tile + 1) c.args.ends.now c.loop-end.end-index c.loop-end.invariant.told
    c.loop-end-test.false

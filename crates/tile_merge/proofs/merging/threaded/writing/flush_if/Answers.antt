use Rattle.byte_streams.specs.Failures.{Wrote}
use Rattle.std.proofs.Common.{subst, Result}
use Rattle.byte_streams.specs.declared.fault.Fault.{Fault}
use Rattle.tile_merge.proofs.Writing.{flushed}
use Rattle.tile_merge.proofs.merging.threaded.writing.flush_if.Goals as goal

pub returns-clause-written : goal.returns-clause-written
returns-clause-written g c bytes old written =
    let before = g.W.Sink.taken c.args.output.now in
    let whole = subst (λ (r : Result (Unit {0}) Fault). Wrote r old before bytes) c.in_ok-wrote.was written in
    flushed c.flush.result bytes old before (g.W.Sink.taken c.flush.new.self) whole c.flush.ensures.bytes

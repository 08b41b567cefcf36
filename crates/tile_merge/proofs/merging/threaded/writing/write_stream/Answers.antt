use Rattle.tile_merge.specs.Threads.{begun_of}
use Rattle.tile_merge.proofs.Writing.{first_lines, flushed_lines}
use Rattle.tile_merge.proofs.merging.threaded.writing.write_stream.Goals as goal

pub rounds-init : goal.rounds-init
rounds-init g c =
    let wrote = c.write_first-wrote in
    rw wrote.ensures.same (first_lines c.args.tiles.now c.args.header wrote.result (g.W.Sink.taken c.args.output.now)
    (g.W.Sink.taken wrote.new.output) (g.W.Sink.failures c.args.output.now) (g.W.Sink.failures wrote.new.output)
    c.requires.fresh wrote.ensures.written wrote.ensures.failures wrote.ensures.fault)

pub returns-clause-written : goal.returns-clause-written
returns-clause-written g c =
    flushed_lines (begun_of c.args.tiles.now) c.args.header c.rounds.tiles c.rounds.wrote c.flush.result
    (g.W.Sink.taken c.args.output.now) (g.W.Sink.taken c.rounds.output) (g.W.Sink.taken c.flush.new.self)
    (g.W.Sink.failures c.args.output.now) (g.W.Sink.failures c.rounds.output) (g.W.Sink.failures c.flush.new.self)
    c.in_ok-wrote.was c.rounds.invariant c.flush.ensures.bytes c.flush.ensures.failures c.flush.ensures.fault

use Rattle.tile_merge.specs.Threads.{LinesSoFar, begun_of}
use Rattle.tile_merge.proofs.merging.threaded.writing.write_stream.Given as goal

abbrev pub invariant-rounds : goal.invariant-rounds
invariant-rounds g l =
    LinesSoFar (begun_of l.fn.tiles) l.fn.header l.tiles l.wrote (g.W.Sink.taken l.fn.output)
    (g.W.Sink.taken l.output) (g.W.Sink.failures l.fn.output) (g.W.Sink.failures l.output)

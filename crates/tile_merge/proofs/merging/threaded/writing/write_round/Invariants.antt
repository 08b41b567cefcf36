use Rattle.tile_merge.specs.Threads.{GoesOnWriting}
use Rattle.tile_merge.proofs.merging.threaded.writing.write_round.Given as goal

abbrev pub invariant-tiles : goal.invariant-tiles
invariant-tiles g l =
    GoesOnWriting l.fn.tiles l.tiles l.initial.wrote l.wrote (g.W.Sink.taken l.initial.output) (g.W.Sink.taken l.output)
    (g.W.Sink.failures l.initial.output) (g.W.Sink.failures l.output)

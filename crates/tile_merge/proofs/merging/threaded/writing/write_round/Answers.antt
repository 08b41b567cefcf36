use Rattle.std.proofs.Common.{arith}
use Rattle.tile_merge.proofs.Writing.{one_note}
use Rattle.tile_merge.proofs.merging.threaded.writing.write_round.Goals as goal

pub tiles-preserved : goal.tiles-preserved
tiles-preserved g c begun header old count so_far =
    let wrote = c.write_note-wrote in
    one_note begun header c.tiles.tiles c.tiles.tile-index c.tile-item.result wrote.new.tile
    (omega (arith, c.tiles-test.true, c.tiles.auto.tiles)) wrote.ensures.begun old count wrote.ensures.cancels
    c.tiles.wrote wrote.result (g.W.Sink.taken c.tiles.output) (g.W.Sink.taken wrote.new.output)
    (g.W.Sink.failures c.tiles.output) (g.W.Sink.failures wrote.new.output) wrote.ensures.written wrote.ensures.after
    (c.tiles.invariant begun header old count so_far)

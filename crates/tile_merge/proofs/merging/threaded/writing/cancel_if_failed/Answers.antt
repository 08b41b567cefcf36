use Rattle.std.proofs.Common.{◌∙◌, sym, arith}
use Rattle.tile_merge.proofs.Writing.{one_asked}
use Rattle.tile_merge.proofs.merging.threaded.writing.cancel_if_failed.Goals as goal

pub tiles-preserved : goal.tiles-preserved
tiles-preserved g c begun header old new count newer so_far =
    let failing = sym c.is_ok.ensures.value ∙ c.if-is_ok.false in
    one_asked begun header c.tiles.tiles c.tiles.tile-index c.tile-item.result c.cancel.new.self
    (omega (arith, c.tiles-test.true, c.tiles.auto.tiles)) c.cancel.ensures.begun old count c.cancel.ensures.lines
    c.args.wrote failing new newer (c.tiles.invariant begun header old new count newer so_far)

use Rattle.std.proofs.lemmas.Result.{err_from_is_err_and}
use Rattle.tile_stream.proofs.FirstBytes.{both_written, common_failed, on_err_more, on_ok_more, own_failed}
use Rattle.tile_stream.proofs.writing.write_parts.Goals as goal

pub returns-in_err-write_all-clause-some : goal.returns-in_err-write_all-clause-some
returns-in_err-write_all-clause-some g c =
    let refusal = err_from_is_err_and c.from_residual.result c.from_residual.ensures.1 in
    rw refusal.1 (own_failed c.args.own.now c.args.common.now (g.W.Sink.taken c.args.output.now)
    (g.W.Sink.taken c.write_all.new.sink) c.in_err-write_all.ensures.some)

pub returns-clause-ok : goal.returns-clause-ok
returns-clause-ok g c = on_ok_more c.write_text.result
    (both_written c.args.own.now c.args.common.now (g.W.Sink.taken c.args.output.now)
    (g.W.Sink.taken c.write_all.new.sink) c.in_ok-write_all.ensures.all (g.W.Sink.taken c.write_text.new.output))
    c.write_text.ensures.all

pub returns-clause-some : goal.returns-clause-some
returns-clause-some g c = on_err_more c.write_text.result
    (common_failed c.args.own.now c.args.common.now (g.W.Sink.taken c.args.output.now)
    (g.W.Sink.taken c.write_all.new.sink) c.in_ok-write_all.ensures.all (g.W.Sink.taken c.write_text.new.output))
    c.write_text.ensures.some

use Rattle.tile_stream.proofs.Steps.{text_failed, newline_failed}
use Rattle.tile_stream.proofs.writing.write_text.Goals as goal

pub returns-in-Err-clause-some : goal.returns-in-Err-clause-some
returns-in-Err-clause-some g c =
    let wrote = c.in-Err.ensures.some in
    let old = g.W.Sink.taken c.args.output.now in
    text_failed old (g.W.Sink.taken c.write_all.new.sink) old c.args.text.now wrote.0 wrote.1

pub returns-in-Err-write_all-clause-some : goal.returns-in-Err-write_all-clause-some
returns-in-Err-write_all-clause-some g c =
    let wrote = c.in-Ok.ensures.all in
    let more = c.in-Err-write_all.ensures.some in
    newline_failed (g.W.Sink.taken c.args.output.now) (g.W.Sink.taken c.write_all.new.sink)
    (g.W.Sink.taken c.write_all-2.new.sink) c.args.text.now wrote more.0 more.1

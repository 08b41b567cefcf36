use Rattle.tile_stream.proofs.Steps.{whole_written}
use Rattle.tile_stream.proofs.filter.write_on.Goals as goal

pub returns-in-Err-pass_on-clause-some : goal.returns-in-Err-pass_on-clause-some
returns-in-Err-pass_on-clause-some g c =
    let wrote = c.in-Ok.ensures.all in
    whole_written (g.W.Sink.taken c.args.output.now) (g.W.Sink.taken c.write_line.new.output)
    (g.W.Sink.taken c.pass_on.new.output) c.args.line wrote.1 c.in-Err-pass_on.ensures.bytes

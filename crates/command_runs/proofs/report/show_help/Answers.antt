use Rattle.std.proofs.Common.{ap, ◌∙◌}
use Rattle.byte_streams.specs.Failures.{after_call}
use Rattle.command_runs.proofs.Shown.{shown}
use Rattle.command_runs.proofs.report.show_help.Goals as goal

pub returns-in-Ok-clause-text : goal.returns-in-Ok-clause-text
returns-in-Ok-clause-text g c =
    let wrote = rw c.items.ensures at c.in-Ok.ensures.all in
    shown c.args.text.now (g.W.Sink.is_flushed c.flush.new.self) (g.W.Sink.taken c.args.output.now)
    (g.W.Sink.taken c.write_all.new.sink) (g.W.Sink.taken c.flush.new.self) (g.W.Sink.failures c.args.output.now)
    (g.W.Sink.failures c.flush.new.self) wrote c.flush.ensures.bytes c.flush.result c.flush.ensures.flushed
    (c.flush.ensures.failures ∙ ap (after_call c.flush.result) c.in-Ok.ensures.failures)

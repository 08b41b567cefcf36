use Rattle.std.proofs.lemmas.Result.{err_from_is_err_and}
use Rattle.city_feature.specs.Choice.{IsChosen}
use Rattle.tile_stream.specs.Stream.{with_newline}
use Rattle.tile_merge.proofs.Answering.{when_err, when_ok}
use Rattle.tile_merge.proofs.InTurn.{all_turns, no_flush, no_header, no_turns}
use Rattle.tile_merge.proofs.merging.in_turn.write_stream.Goals as goal

pub returns-in_err-write_line-clause-failed : goal.returns-in_err-write_line-clause-failed
returns-in_err-write_line-clause-failed g c =
    let e = err_from_is_err_and c.from_residual.result c.from_residual.ensures.1 in
    let part = c.in_err-write_line.ensures.some in
    rw e.1 (no_header g.R.Source.gives (IsChosen c.args.choice.now) (with_newline c.args.header) c.args.feeds.now
    (g.W.Sink.taken c.args.output.now) c.requires (g.W.Sink.taken c.write_line.new.output) part.0 part.1)

pub returns-in_err-write_turns-clause-failed : goal.returns-in_err-write_turns-clause-failed
returns-in_err-write_turns-clause-failed g c =
    let e = err_from_is_err_and c.from_residual-in_err-write_turns.result
    c.from_residual-in_err-write_turns.ensures.1 in
    rw e.1 (no_turns g.R.Source.gives (IsChosen c.args.choice.now) (with_newline c.args.header) c.args.feeds.now
    (g.W.Sink.taken c.args.output.now) (g.W.Sink.taken c.write_line.new.output)
    (g.W.Sink.taken c.write_turns.new.output) c.in_ok-write_line.ensures.all.1
    c.in_err-write_turns.ensures.failed)

pub returns-clause-ok : goal.returns-clause-ok
returns-clause-ok g c =
    when_ok _ c.flush.result (all_turns g.R.Source.gives (IsChosen c.args.choice.now) (with_newline c.args.header)
    c.args.feeds.now (g.W.Sink.taken c.args.output.now) (g.W.Sink.taken c.write_line.new.output)
    (g.W.Sink.taken c.write_turns.new.output) c.in_ok-write_line.ensures.all.1 c.write_turns.new.feeds
    (g.W.Sink.taken c.flush.new.self) c.in_ok-write_turns.ensures.ok c.flush.ensures.bytes)

pub returns-clause-failed : goal.returns-clause-failed
returns-clause-failed g c =
    when_err _ c.flush.result (no_flush g.R.Source.gives (IsChosen c.args.choice.now) (with_newline c.args.header)
    c.args.feeds.now (g.W.Sink.taken c.args.output.now) (g.W.Sink.taken c.write_line.new.output)
    (g.W.Sink.taken c.write_turns.new.output) c.in_ok-write_line.ensures.all.1 c.write_turns.new.feeds
    (g.W.Sink.taken c.flush.new.self) c.in_ok-write_turns.ensures.ok c.flush.ensures.bytes)

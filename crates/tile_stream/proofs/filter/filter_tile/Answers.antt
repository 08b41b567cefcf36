use Rattle.std.proofs.Common.{ap, ◌∙◌}
use Rattle.city_feature.specs.Choice.{IsChosen}
use Rattle.city_feature.specs.LineTexts.{no_steps}
use Rattle.tile_stream.specs.Filtered.{failures_after_write}
use Rattle.tile_stream.specs.Unread.{Leaves, failed_reads_after}
use Rattle.tile_stream.proofs.HeldFirst.{something}
use Rattle.tile_stream.proofs.Filtering.{of_no_head, failed_header, failures_told, of_told, passed_on, reads_told, whole_stream, failed_flush}
use Rattle.tile_stream.proofs.filter.filter_tile.Goals as goal

pub returns-in-Err-clause-refused : goal.returns-in-Err-clause-refused
returns-in-Err-clause-refused g c =
    let at = c.in-Err.at in
    rw c.of_line.ensures (of_no_head (Leaves g.R.Source.gives c.args.tile.now.lines) (IsChosen c.args.choice.now)
    at.line at.fault c.in-Err.ensures.not_written (g.W.Sink.taken c.args.output.now) c.in-Err.ensures.refused)

pub returns-in-Err-write_on-clause-refused : goal.returns-in-Err-write_on-clause-refused
returns-in-Err-write_on-clause-refused g c =
    let head = c.in-Ok.ensures.ok in
    let now = c.take_header_line.new.tile in
    let some = something g.R.Source.gives (IsChosen c.args.choice.now) no_steps now c.take_header_line.ensures.some in
    let wrote = c.in-Err-write_on.ensures.some in
    rw c.of_no_line.ensures (failed_header (Leaves g.R.Source.gives c.args.tile.now.lines) (IsChosen c.args.choice.now)
    g.R.Source.gives now head.0 c.in-Ok.ensures.later head.2 some
    (g.W.Sink.taken c.args.output.now) (g.W.Sink.taken c.write_on.new.output) c.in-Ok.line head.1 wrote.0 wrote.1)

pub returns-in-Err-write_features-clause-refused : goal.returns-in-Err-write_features-clause-refused
returns-in-Err-write_features-clause-refused g c =
    let head = c.in-Ok.ensures.ok in
    let now = c.take_header_line.new.tile in
    let wrote = c.in-Ok-write_on.ensures.all in
    let refusal = c.in-Err-write_features.refusal in
    let told = c.told_after in
    of_told (Leaves g.R.Source.gives c.args.tile.now.lines) (IsChosen c.args.choice.now) g.R.Source.gives now head.0
    c.in-Ok.ensures.later head.2 (g.W.Sink.taken c.args.output.now)
    (g.W.Sink.taken c.write_on.new.output) c.in-Ok.line head.1 wrote.1 refusal told.result
    (g.W.Sink.is_flushed told.new.output) (g.W.Sink.failures c.write_features.new.output)
    (g.W.Sink.failures told.new.output) (g.W.Sink.taken c.write_features.new.output)
    (g.W.Sink.taken told.new.output) c.in-Err-write_features.ensures.refused told.ensures.bytes told.ensures.told

pub returns-in-Ok-flush-clause-ok : goal.returns-in-Ok-flush-clause-ok
returns-in-Ok-flush-clause-ok g c =
    let head = c.in-Ok.ensures.ok in
    let now = c.take_header_line.new.tile in
    let wrote = c.in-Ok-write_on.ensures.all in
    whole_stream (Leaves g.R.Source.gives c.args.tile.now.lines) (IsChosen c.args.choice.now) g.R.Source.gives now
    head.0 c.in-Ok.ensures.later head.2 (g.W.Sink.taken c.args.output.now)
    (g.W.Sink.taken c.write_on.new.output) c.in-Ok.line head.1 wrote.1 c.in-Ok-write_features.count
    (g.W.Sink.taken c.write_features.new.output) (g.W.Sink.taken c.flush.new.self) c.in-Ok-write_features.ensures.ok
    c.in-Ok-flush.ensures.bytes

pub returns-in-Err-flush-clause-refused : goal.returns-in-Err-flush-clause-refused
returns-in-Err-flush-clause-refused g c =
    let head = c.in-Ok.ensures.ok in
    let now = c.take_header_line.new.tile in
    let wrote = c.in-Ok-write_on.ensures.all in
    rw c.of_no_line-in-Err-flush.ensures (failed_flush (Leaves g.R.Source.gives c.args.tile.now.lines)
    (IsChosen c.args.choice.now) g.R.Source.gives now head.0 c.in-Ok.ensures.later head.2
    (g.W.Sink.taken c.args.output.now) (g.W.Sink.taken c.write_on.new.output) c.in-Ok.line head.1 wrote.1
    c.in-Ok-write_features.count (g.W.Sink.taken c.write_features.new.output) (g.W.Sink.taken c.flush.new.self)
    c.in-Ok-write_features.ensures.ok c.flush.ensures.bytes)

pub returns-in-Err-write_features-clause-passed_on : goal.returns-in-Err-write_features-clause-passed_on
returns-in-Err-write_features-clause-passed_on g c =
    let told = c.told_after in
    passed_on c.in-Err-write_features.refusal told.result (g.W.Sink.is_flushed told.new.output)
    (g.W.Sink.failures c.write_features.new.output) (g.W.Sink.failures told.new.output)
    (Leaves g.R.Source.gives c.args.tile.now.lines) (g.W.Sink.taken c.args.output.now)
    (g.W.Sink.taken told.new.output) told.ensures.told

pub returns-in-Err-write_features-clause-failures : goal.returns-in-Err-write_features-clause-failures
returns-in-Err-write_features-clause-failures g c =
    let told = c.told_after in
    let before = c.in-Err-write_features.ensures.failures
    ∙ ap (failures_after_write c.in-Err-write_features.refusal.fault) c.in-Ok-write_on.ensures.failures in
    failures_told c.in-Err-write_features.refusal told.result (g.W.Sink.is_flushed told.new.output)
    (g.W.Sink.failures c.write_features.new.output) (g.W.Sink.failures told.new.output)
    (g.W.Sink.failures c.args.output.now) before told.ensures.told

pub returns-in-Err-write_features-clause-failed_reads : goal.returns-in-Err-write_features-clause-failed_reads
returns-in-Err-write_features-clause-failed_reads g c = λ not_failed.
    let told = c.told_after in
    let refusal = c.in-Err-write_features.refusal in
    let head = rw (not_failed, c.in-Ok.ensures.not_failed) at c.in-Ok.ensures.failures in
    let reads = c.in-Err-write_features.ensures.reads ∙ ap (failed_reads_after refusal.fault) head in
    reads_told refusal told.result (g.W.Sink.is_flushed told.new.output) (g.W.Sink.failures c.write_features.new.output)
    (g.W.Sink.failures told.new.output) (g.R.Source.failures c.args.tile.now.lines.ahead.reader)
    (g.R.Source.failures c.write_features.new.tile.lines.ahead.reader) reads told.ensures.told

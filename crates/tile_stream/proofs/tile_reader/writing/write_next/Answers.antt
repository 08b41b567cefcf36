use Rattle.std.proofs.Common.{take, option_map}
use Rattle.city_feature.specs.Choice.{IsChosen}
use Rattle.city_json.specs.TextPlace.{placed_text}
use Rattle.tile_stream.proofs.Comings.{fault_comes, line_comes, no_failed_write, refusal_comes}
use Rattle.tile_stream.proofs.HeldFirst.{lines_come}
use Rattle.tile_stream.proofs.Leaving.{something_left}
use Rattle.tile_stream.proofs.Steps.{line_begun, line_refused, line_step, no_read_fault_write}
use Rattle.tile_stream.specs.Coming.{LinesMayComeTo}
use Rattle.tile_stream.proofs.tile_reader.writing.write_next.Goals as goal

pub returns-in-Ok-None-clause-some : goal.returns-in-Ok-None-clause-some
returns-in-Ok-None-clause-some g c =
    lines_come g.R.Source.gives (IsChosen c.args.choice.now) c.args.shift g.met.R.Source.gives_something
    c.next_len.new.self c.next_len.ensures.ended

pub returns-in-Err-clause-refused : goal.returns-in-Err-clause-refused
returns-in-Err-clause-refused g c =
    let at = c.in-Err.at in
    rw (← c.tile.view_is, c.of_line.ensures) (line_refused
    (LinesMayComeTo g.R.Source.gives (IsChosen c.args.choice.now) c.args.shift c.tile.inside.lines) at.line
    (g.W.Sink.taken c.args.output.now) at.fault (no_read_fault_write at.fault c.in-Err.ensures.kind)
    (fault_comes g.R.Source.gives (IsChosen c.args.choice.now) c.args.shift c.tile.inside.lines
    at.fault at.line c.in-Err.ensures.at c.in-Err.ensures.refused))

pub returns-in-Err-clause-some : goal.returns-in-Err-clause-some
returns-in-Err-clause-some g c =
    lines_come g.R.Source.gives (IsChosen c.args.choice.now) c.args.shift g.met.R.Source.gives_something
    c.next_len.new.self c.next_len.ensures.ended

pub returns-in-Err-feature_text-clause-refused : goal.returns-in-Err-feature_text-clause-refused
returns-in-Err-feature_text-clause-refused g c =
    let lines = c.tile.inside.lines in
    let next = rw c.in-Ok-Some.field-0-is at c.in-Ok-Some.ensures.line in
    let bytes = take c.in-Ok-Some.count c.next_len.new.self.ahead.held in
    let left = c.leave_line-number.ensures in
    let refused = rw c.front-line.ensures at c.in-Err-feature_text.ensures.refusal in
    let fault = c.in-Err-feature_text.fault in
    let some = something_left g.R.Source.gives g.met.R.Source.gives_something c.leave_line-number.new.self left.ended in
    rw (← c.tile.view_is, c.of_line-in-Err-feature_text.ensures) (line_refused
    (LinesMayComeTo g.R.Source.gives (IsChosen c.args.choice.now) c.args.shift lines) c.leave_line-number.result
    (g.W.Sink.taken c.args.output.now) fault (no_failed_write c.args.shift bytes fault refused)
    (refusal_comes g.R.Source.gives (IsChosen c.args.choice.now) c.args.shift lines c.leave_line-number.new.self
    c.leave_line-number.result bytes (left.line lines next) some.0 some.1 fault refused))

pub returns-in-Err-feature_text-clause-some : goal.returns-in-Err-feature_text-clause-some
returns-in-Err-feature_text-clause-some g c =
    lines_come g.R.Source.gives (IsChosen c.args.choice.now) c.args.shift g.met.R.Source.gives_something
    c.leave_line-number.new.self c.leave_line-number.ensures.ended

pub returns-in-Ok-written-clause-step : goal.returns-in-Ok-written-clause-step
returns-in-Ok-written-clause-step g c =
    let lines = c.tile.inside.lines in
    let next = rw c.in-Ok-Some.field-0-is at c.in-Ok-Some.ensures.line in
    let bytes = take c.in-Ok-Some.count c.next_len.new.self.ahead.held in
    let given = option_map (λ place. placed_text place bytes c.feature_text.new.text) c.in-Ok.given in
    let feature = rw c.front-line.ensures at c.in-Ok.ensures.ok in
    let wrote = rw c.front-line.ensures at c.in-Ok-written.ensures.all in
    let comes = LinesMayComeTo g.R.Source.gives (IsChosen c.args.choice.now) c.args.shift in
    rw (← c.tile.view_is) (line_step (comes lines) (comes c.leave_line.new.self) (g.W.Sink.taken c.args.output.now)
    (g.W.Sink.taken c.write_given-written.new.output) given c.in-Ok-written.texts
    (line_comes g.R.Source.gives (IsChosen c.args.choice.now) c.args.shift lines c.leave_line.new.self
    c.leave_line.result bytes (c.leave_line.ensures.line lines next) given feature) wrote)

pub returns-in-Ok-written-clause-some : goal.returns-in-Ok-written-clause-some
returns-in-Ok-written-clause-some g c =
    lines_come g.R.Source.gives (IsChosen c.args.choice.now) c.args.shift g.met.R.Source.gives_something
    c.leave_line.new.self c.leave_line.ensures.ended

pub returns-in-Err-written-clause-refused : goal.returns-in-Err-written-clause-refused
returns-in-Err-written-clause-refused g c =
    let lines = c.tile.inside.lines in
    let next = rw c.in-Ok-Some.field-0-is at c.in-Ok-Some.ensures.line in
    let bytes = take c.in-Ok-Some.count c.next_len.new.self.ahead.held in
    let left = c.leave_line.ensures in
    let given = option_map (λ place. placed_text place bytes c.feature_text.new.text) c.in-Ok.given in
    let feature = rw c.front-line.ensures at c.in-Ok.ensures.ok in
    let begun = rw c.front-line.ensures at c.in-Err-written.ensures.some in
    let comes = LinesMayComeTo g.R.Source.gives (IsChosen c.args.choice.now) c.args.shift in
    let some = lines_come g.R.Source.gives (IsChosen c.args.choice.now) c.args.shift g.met.R.Source.gives_something
    c.leave_line.new.self left.ended in
    rw (← c.tile.view_is, c.of_no_line.ensures) (line_begun (comes lines) (comes c.leave_line.new.self)
    (g.W.Sink.taken c.args.output.now) (g.W.Sink.taken c.write_given-written.new.output) given
    (line_comes g.R.Source.gives (IsChosen c.args.choice.now) c.args.shift lines c.leave_line.new.self
    c.leave_line.result bytes (left.line lines next) given feature) some begun)

pub returns-in-Err-written-clause-some : goal.returns-in-Err-written-clause-some
returns-in-Err-written-clause-some g c =
    lines_come g.R.Source.gives (IsChosen c.args.choice.now) c.args.shift g.met.R.Source.gives_something
    c.leave_line.new.self c.leave_line.ensures.ended

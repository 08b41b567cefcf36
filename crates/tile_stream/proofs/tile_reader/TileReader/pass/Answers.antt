use Rattle.std.proofs.Common.{None, Some, take}
use Rattle.city_feature.specs.Choice.{IsChosen}
use Rattle.tile_stream.proofs.Comings.{fault_comes, line_comes, nothing_comes, refusal_comes}
use Rattle.tile_stream.proofs.HeldFirst.{lines_come}
use Rattle.tile_stream.proofs.Leaving.{something_left}
use Rattle.tile_stream.proofs.tile_reader.TileReader.pass.Goals as goal

pub returns-in-Ok-None-clause-over : goal.returns-in-Ok-None-clause-over
returns-in-Ok-None-clause-over g c =
    let over = rw c.in-Ok-None.field-0-is at c.in-Ok-None.ensures.over in
    rw (← c.self.view_is) (nothing_comes g.R.Source.gives (IsChosen c.args.choice.now) c.args.shift c.self.inside.lines
    over)

pub returns-in-Ok-None-clause-some : goal.returns-in-Ok-None-clause-some
returns-in-Ok-None-clause-some g c =
    lines_come g.R.Source.gives (IsChosen c.args.choice.now) c.args.shift g.met.R.Source.gives_something
    c.next_len.new.self c.next_len.ensures.ended

pub returns-in-Err-clause-refused : goal.returns-in-Err-clause-refused
returns-in-Err-clause-refused g c =
    let at = c.in-Err.at in
    rw (← c.self.view_is) (fault_comes g.R.Source.gives (IsChosen c.args.choice.now) c.args.shift c.self.inside.lines
    at.fault at.line c.in-Err.ensures.at c.in-Err.ensures.refused)

pub returns-in-Err-clause-some : goal.returns-in-Err-clause-some
returns-in-Err-clause-some g c =
    lines_come g.R.Source.gives (IsChosen c.args.choice.now) c.args.shift g.met.R.Source.gives_something
    c.next_len.new.self c.next_len.ensures.ended

pub returns-in-Ok-clause-text : goal.returns-in-Ok-clause-text
returns-in-Ok-clause-text g c =
    let lines = c.self.inside.lines in
    let next = rw c.in-Ok-Some.field-0-is at c.in-Ok-Some.ensures.line in
    let bytes = take c.in-Ok-Some.count c.next_len.new.self.ahead.held in
    let chosen = rw c.front-bytes.ensures at c.in-Ok.ensures.chosen in
    rw (← c.self.view_is) (λ is. line_comes g.R.Source.gives (IsChosen c.args.choice.now) c.args.shift lines
    c.leave_line-line.new.self c.leave_line-line.result bytes (c.leave_line-line.ensures.line lines next)
    (Some c.in-Ok.passed.text) (chosen is))

pub returns-in-Ok-clause-skipped : goal.returns-in-Ok-clause-skipped
returns-in-Ok-clause-skipped g c =
    let lines = c.self.inside.lines in
    let next = rw c.in-Ok-Some.field-0-is at c.in-Ok-Some.ensures.line in
    let bytes = take c.in-Ok-Some.count c.next_len.new.self.ahead.held in
    let skipped = rw c.front-bytes.ensures at c.in-Ok.ensures.skipped in
    rw (← c.self.view_is) (λ is. (
      (skipped is).0,
      line_comes g.R.Source.gives (IsChosen c.args.choice.now) c.args.shift lines c.leave_line-line.new.self
          c.leave_line-line.result bytes (c.leave_line-line.ensures.line lines next) None (skipped is).1,
    ))

pub returns-in-Ok-clause-some : goal.returns-in-Ok-clause-some
returns-in-Ok-clause-some g c =
    lines_come g.R.Source.gives (IsChosen c.args.choice.now) c.args.shift g.met.R.Source.gives_something
    c.leave_line-line.new.self c.leave_line-line.ensures.ended

pub returns-in-Err-passed-clause-refused : goal.returns-in-Err-passed-clause-refused
returns-in-Err-passed-clause-refused g c =
    let lines = c.self.inside.lines in
    let next = rw c.in-Ok-Some.field-0-is at c.in-Ok-Some.ensures.line in
    let bytes = take c.in-Ok-Some.count c.next_len.new.self.ahead.held in
    let refused = rw c.front-bytes.ensures at c.in-Err-passed.ensures.refusal in
    let left = c.leave_line-line.ensures in
    let some = something_left g.R.Source.gives g.met.R.Source.gives_something c.leave_line-line.new.self left.ended in
    rw (← c.self.view_is) (refusal_comes g.R.Source.gives (IsChosen c.args.choice.now) c.args.shift lines
    c.leave_line-line.new.self c.leave_line-line.result bytes (left.line lines next) some.0 some.1 c.in-Err-passed.fault
    refused)

pub returns-in-Err-passed-clause-some : goal.returns-in-Err-passed-clause-some
returns-in-Err-passed-clause-some g c =
    lines_come g.R.Source.gives (IsChosen c.args.choice.now) c.args.shift g.met.R.Source.gives_something
    c.leave_line-line.new.self c.leave_line-line.ensures.ended

use Rattle.std.proofs.Common.{take, inl, inr}
use Rattle.city_families.specs.HeldTexts.{texts_in}
use Rattle.city_feature.specs.Values.{header_value}
use Rattle.tile_stream.specs.Unread.{Leaves}
use Rattle.tile_stream.proofs.Heads.{gives_head, head_fault, no_head, no_line}
use Rattle.tile_stream.proofs.Leaving.{something_left}
use Rattle.tile_stream.proofs.tile_reader.TileReader.take_head.Goals as goal

pub returns-in-Ok-None-clause-refused : goal.returns-in-Ok-None-clause-refused
returns-in-Ok-None-clause-refused g c =
    let over = rw c.in-Ok-None.field-0-is at c.in-Ok-None.ensures.over in
    rw (← c.self.view_is) (no_line (Leaves g.R.Source.gives c.self.inside.lines) over)

pub returns-in-Ok-None-clause-some : goal.returns-in-Ok-None-clause-some
returns-in-Ok-None-clause-some g c =
    let some = something_left g.R.Source.gives g.met.R.Source.gives_something c.next_len.new.self c.next_len.ensures.ended in
    (some.0, (some.1, some.2))

pub returns-in-Err-clause-refused : goal.returns-in-Err-clause-refused
returns-in-Err-clause-refused g c =
    rw (← c.self.view_is) (no_head (Leaves g.R.Source.gives c.self.inside.lines) c.in-Err.at.fault c.in-Err.at.line
    c.in-Err.ensures.counted c.in-Err.ensures.refused)

pub returns-in-Err-clause-memory : goal.returns-in-Err-clause-memory
returns-in-Err-clause-memory g c memory going =
    let open_before = rw (← c.self.view_is) at going in
    rw (← c.self.view_is) (inl (c.in-Err.ensures.stands memory open_before))

pub returns-in-Err-clause-some : goal.returns-in-Err-clause-some
returns-in-Err-clause-some g c =
    let some = something_left g.R.Source.gives g.met.R.Source.gives_something c.next_len.new.self c.next_len.ensures.ended in
    (some.0, (some.1, some.2))

pub returns-in-Ok-clause-head : goal.returns-in-Ok-clause-head
returns-in-Ok-clause-head g c =
    let lines = c.self.inside.lines in
    let next = rw c.in-Ok-Some.field-0-is at c.in-Ok-Some.ensures.line in
    let bytes = take c.in-Ok-Some.count c.next_len.new.self.ahead.held in
    let taken = (c.leave_line-line.ensures.line lines next).line in
    let head = rw c.front.ensures at c.in-Ok.ensures.ok in
    rw (← c.self.view_is) (gives_head (Leaves g.R.Source.gives lines) (Leaves g.R.Source.gives c.leave_line-line.new.self)
    c.leave_line-line.result bytes taken (header_value c.in-Ok.field-0.header) (texts_in c.in-Ok.field-0.texts) head)

pub returns-in-Ok-clause-some : goal.returns-in-Ok-clause-some
returns-in-Ok-clause-some g c =
    let some = something_left g.R.Source.gives g.met.R.Source.gives_something c.leave_line-line.new.self
    c.leave_line-line.ensures.ended in
    (some.0, (some.1, some.2))

pub returns-in-Err-first-clause-refused : goal.returns-in-Err-first-clause-refused
returns-in-Err-first-clause-refused g c =
    let lines = c.self.inside.lines in
    let next = rw c.in-Ok-Some.field-0-is at c.in-Ok-Some.ensures.line in
    let bytes = take c.in-Ok-Some.count c.next_len.new.self.ahead.held in
    let taken = (c.leave_line-line.ensures.line lines next).line in
    let refused = rw c.front.ensures at c.in-Err-first.ensures.refused in
    let some = something_left g.R.Source.gives g.met.R.Source.gives_something c.leave_line-line.new.self
    c.leave_line-line.ensures.ended in
    rw (← c.self.view_is) (head_fault (Leaves g.R.Source.gives lines) (Leaves g.R.Source.gives c.leave_line-line.new.self)
    c.leave_line-line.result bytes taken some.0 some.1 c.in-Err-first.fault refused)

pub returns-in-Err-first-clause-memory : goal.returns-in-Err-first-clause-memory
returns-in-Err-first-clause-memory g c memory going =
    let lines = c.self.inside.lines in
    let next = rw c.in-Ok-Some.field-0-is at c.in-Ok-Some.ensures.line in
    let bytes = take c.in-Ok-Some.count c.next_len.new.self.ahead.held in
    let taken = (c.leave_line-line.ensures.line lines next).line in
    rw (← c.self.view_is) (inr (bytes, taken))

pub returns-in-Err-first-clause-some : goal.returns-in-Err-first-clause-some
returns-in-Err-first-clause-some g c =
    let some = something_left g.R.Source.gives g.met.R.Source.gives_something c.leave_line-line.new.self
    c.leave_line-line.ensures.ended in
    (some.0, (some.1, some.2))

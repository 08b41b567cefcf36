use Rattle.std.proofs.Common.{◌≡◌, ◌++◌, take, ap, ◌∙◌, arith}
use Rattle.tile_stream.proofs.Leaving.{out_of_memory, something_left, stands_there}
use Rattle.tile_stream.proofs.lines.Lines.next.Goals as goal

pub returns-in-Ok-None-clause-some : goal.returns-in-Ok-None-clause-some
returns-in-Ok-None-clause-some g c =
    something_left g.R.Source.gives g.met.R.Source.gives_something c.next_len.new.self c.next_len.ensures.ended

pub returns-in-Err-clause-some : goal.returns-in-Err-clause-some
returns-in-Err-clause-some g c =
    something_left g.R.Source.gives g.met.R.Source.gives_something c.next_len.new.self c.next_len.ensures.ended

pub returns-in_default-clause-refused : goal.returns-in_default-clause-refused
returns-in_default-clause-refused g c =
    let next = rw c.in-Ok-Some.field-0-is at c.in-Ok-Some.ensures.line in
    rw (c.refuse.ensures.at) (out_of_memory g.R.Source.gives c.args.self.now c.next_len.new.self c.in-Ok-Some.count next.next
    g.met.R.Source.gives_something)

pub returns-in_default-clause-stands : goal.returns-in_default-clause-stands
returns-in_default-clause-stands g c memory going =
    let next = rw c.in-Ok-Some.field-0-is at c.in-Ok-Some.ensures.line in
    rw (c.refuse.ensures.at, c.refuse.ensures.refused)
    (stands_there g.R.Source.gives c.args.self.now c.next_len.new.self c.in-Ok-Some.count next.next)

pub returns-in_default-clause-some : goal.returns-in_default-clause-some
returns-in_default-clause-some g c =
    something_left g.R.Source.gives g.met.R.Source.gives_something c.refuse.new.self
    (rw (c.refuse.ensures.refused) (omega arith))

pub returns-clause-line : goal.returns-clause-line
returns-clause-line g c =
    let next = rw c.in-Ok-Some.field-0-is at c.in-Ok-Some.ensures.line in
    let is : c.append.new.self ≡ take c.in-Ok-Some.count c.next_len.new.self.ahead.held =
    c.in-Ok.ensures.ok ∙ ap (λ front. front ++ c.front.result.now) c.new-bytes.ensures ∙ c.front.ensures in
    rw is (c.leave_line-number.ensures.line c.args.self.now next).line

pub returns-clause-some : goal.returns-clause-some
returns-clause-some g c =
    something_left g.R.Source.gives g.met.R.Source.gives_something c.leave_line-number.new.self
    c.leave_line-number.ensures.ended

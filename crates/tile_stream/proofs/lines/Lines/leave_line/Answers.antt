use Rattle.std.proofs.Common.{◌<◌, length, arith}
use Rattle.std.proofs.lemmas.Grind.{common_steps}
use Rattle.tile_stream.specs.Unread.{Unread, ended_by}
use Rattle.tile_stream.proofs.Leaving.{left_ended, left_last, taken_line}
use Rattle.tile_stream.proofs.lines.Lines.leave_line.Goals as goal

pub returns-then-count-held-clause-stretch : goal.returns-then-count-held-clause-stretch
returns-then-count-held-clause-stretch g c before stands =
    let s = c.self.inside in
    let now : Unread _ = record { ahead = s.ahead; limits = s.limits; number = s.number; start = s.start; ended = ended_by s.state } in
    let next = rw (← c.self.view_is) at stands in
    let within : c.args.count < length s.ahead.held = grind (arith, common_steps) in
    rw (← c.self.view_is, next.whole.going) (left_ended g.R.Source.gives before now c.args.count next within c.skip.new.self
    c.skip.ensures)

pub returns-then-count-held-clause-line : goal.returns-then-count-held-clause-line
returns-then-count-held-clause-line g c before stands =
    let s = c.self.inside in
    let now : Unread _ = record { ahead = s.ahead; limits = s.limits; number = s.number; start = s.start; ended = ended_by s.state } in
    let next = rw (← c.self.view_is) at stands in
    let stretch = rw (← c.self.view_is) at (returns-then-count-held-clause-stretch g c before stands.next) in
    rw (← c.self.view_is) (taken_line g.R.Source.gives before now _ c.args.count next (omega arith) stretch)

pub returns-else-count-held-clause-stretch : goal.returns-else-count-held-clause-stretch
returns-else-count-held-clause-stretch g c before stands =
    let s = c.self.inside in
    let now : Unread _ = record { ahead = s.ahead; limits = s.limits; number = s.number; start = s.start; ended = ended_by s.state } in
    let next = rw (← c.self.view_is) at stands in
    let all : ¬ (c.args.count < length s.ahead.held) = λ within. absurd (grind (arith, common_steps, within)) in
    rw (← c.self.view_is) (left_last g.R.Source.gives before now c.args.count next all)

pub returns-else-count-held-clause-line : goal.returns-else-count-held-clause-line
returns-else-count-held-clause-line g c before stands =
    let s = c.self.inside in
    let now : Unread _ = record { ahead = s.ahead; limits = s.limits; number = s.number; start = s.start; ended = ended_by s.state } in
    let next = rw (← c.self.view_is) at stands in
    let stretch = rw (← c.self.view_is) at (returns-else-count-held-clause-stretch g c before stands.next) in
    rw (← c.self.view_is) (taken_line g.R.Source.gives before now _ c.args.count next (omega arith) stretch)

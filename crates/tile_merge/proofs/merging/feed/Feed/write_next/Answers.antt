use Rattle.std.proofs.Common.{◌∙◌, ◌+◌, ◌<◌, ◌≤◌, [], length, drop, get_or, refl, ap, arith}
use Rattle.city_feature.specs.Choice.{IsChosen}
use Rattle.tile_handoff.specs.Queues.{queue_of}
use Rattle.tile_merge.specs.Feeds.{queue_after}
use Rattle.tile_merge.specs.contracts.merging.feed.Feed.{the_view}
use Rattle.tile_merge.proofs.Feeding.{first_left, note_left, set_there, wrote_front, wrote_turn}
use Rattle.tile_merge.proofs.merging.feed.Feed.write_next.Goals as goal

pub returns-in-Err-write_at-clause-failed : goal.returns-in-Err-write_at-clause-failed
returns-in-Err-write_at-clause-failed g c =
    let inside = c.self.inside in
    let reads = rw (← c.self.view_is) at c.read_ahead.ensures.reads in
    let fewer = rw (← c.self.view_is) at c.read_ahead.ensures.fewer in
    let within : inside.written < length inside.first = omega (arith, c.if-self-len.true, c.len.ensures.count) in
    wrote_front g.R.Source.gives (IsChosen c.args.choice.now) c.args.self.now (the_view g.row.R inside)
    (queue_after (drop (inside.written + 1) inside.first) (queue_of inside.notes 0))
    (get_or inside.first inside.written []) reads fewer
    (first_left inside.first inside.written within (queue_of inside.notes 0)) refl
    (g.W.Sink.taken c.args.output.now) (g.W.Sink.taken c.read_ahead.new.output) (g.W.Sink.taken c.write_at.new.output)
    c.read_ahead.ensures.bytes c.in-Err-write_at.ensures.some

pub returns-then-self-len-clause-ok : goal.returns-then-self-len-clause-ok
returns-then-self-len-clause-ok g c =
    let inside = c.self.inside in
    let reads = rw (← c.self.view_is) at c.read_ahead.ensures.reads in
    let fewer = rw (← c.self.view_is) at c.read_ahead.ensures.fewer in
    let within : inside.written < length inside.first = omega (arith, c.if-self-len.true, c.len.ensures.count) in
    rw c.in-Ok-write_at.ensures.same (wrote_turn g.R.Source.gives (IsChosen c.args.choice.now) c.args.self.now (the_view g.row.R inside)
    (queue_after (drop (inside.written + 1) inside.first) (queue_of inside.notes 0))
    (get_or inside.first inside.written []) reads fewer
    (first_left inside.first inside.written within (queue_of inside.notes 0)) refl
    (g.W.Sink.taken c.args.output.now) (g.W.Sink.taken c.read_ahead.new.output) (g.W.Sink.taken c.write_at.new.output)
    c.read_ahead.ensures.bytes c.in-Ok-write_at.ensures.ok)

pub returns-in-Ok-write_line-clause-ok : goal.returns-in-Ok-write_line-clause-ok
returns-in-Ok-write_line-clause-ok g c =
    let inside = c.self.inside in
    let reads = rw (← c.self.view_is) at c.read_ahead.ensures.reads in
    let fewer = rw (← c.self.view_is) at c.read_ahead.ensures.fewer in
    let beyond : length inside.first ≤ inside.written = omega (arith, c.if-self-len.false, c.len.ensures.count) in
    let text = c.in-Line.text in
    let took = c.in-Line.ensures.took in
    let next = queue_of c.take.new.self 0 in
    let is_next = ap (λ queues. queue_of queues 0) took.1 ∙ set_there inside.notes _ c.self.invariant.1 in
    wrote_turn g.R.Source.gives (IsChosen c.args.choice.now) c.args.self.now (the_view g.row.R inside)
    (queue_after (drop inside.written inside.first) next) text reads fewer
    (note_left inside.first inside.written beyond (queue_of inside.notes 0) next text took.0)
    (ap (λ q. q.closed) is_next) (g.W.Sink.taken c.args.output.now) (g.W.Sink.taken c.read_ahead.new.output)
    (g.W.Sink.taken c.write_line.new.output) c.read_ahead.ensures.bytes c.in-Ok-write_line.ensures.all.1

pub returns-in-Err-write_line-clause-failed : goal.returns-in-Err-write_line-clause-failed
returns-in-Err-write_line-clause-failed g c =
    let inside = c.self.inside in
    let reads = rw (← c.self.view_is) at c.read_ahead.ensures.reads in
    let fewer = rw (← c.self.view_is) at c.read_ahead.ensures.fewer in
    let beyond : length inside.first ≤ inside.written = omega (arith, c.if-self-len.false, c.len.ensures.count) in
    let text = c.in-Line.text in
    let took = c.in-Line.ensures.took in
    let next = queue_of c.take.new.self 0 in
    let is_next = ap (λ queues. queue_of queues 0) took.1 ∙ set_there inside.notes _ c.self.invariant.1 in
    wrote_front g.R.Source.gives (IsChosen c.args.choice.now) c.args.self.now (the_view g.row.R inside)
    (queue_after (drop inside.written inside.first) next) text reads fewer
    (note_left inside.first inside.written beyond (queue_of inside.notes 0) next text took.0)
    (ap (λ q. q.closed) is_next) (g.W.Sink.taken c.args.output.now) (g.W.Sink.taken c.read_ahead.new.output)
    (g.W.Sink.taken c.write_line.new.output) c.read_ahead.ensures.bytes c.in-Err-write_line.ensures.some

use Rattle.std.proofs.Common.{◌∙◌, Some, None, ap, drop}
use Rattle.city_feature.specs.Choice.{IsChosen}
use Rattle.tile_handoff.specs.Queues.{queue_of}
use Rattle.tile_handoff.specs.declared.note.Note.TheVariants.{Line as LineNote, End as EndNote}
use Rattle.tile_merge.specs.EndNotes.{end_of}
use Rattle.tile_merge.specs.Feeds.{queue_after}
use Rattle.tile_merge.proofs.Feeding.{after_longer, end_read, line_read, nothing_read, open_after, set_there}
use Rattle.tile_merge.proofs.merging.feed.Feed.read_line.Goals as goal

pub returns-then-not-is_chosen-clause-reads : goal.returns-then-not-is_chosen-clause-reads
returns-then-not-is_chosen-clause-reads g c =
    let inside = c.self.inside in
    let first = drop inside.written inside.first in
    let queue = queue_of inside.notes 0 in
    let is_open = ap (λ feed. feed.notes.closed) c.self.view_is ∙ c.requires.room.0 in
    let was = rw (← c.self.view_is) at c.requires.some in
    let skipped = (rw c.in-Ok-Some.field-0-is at c.in-Ok-Some.ensures.skipped) c.if-not-is_chosen.true in
    rw (← c.self.view_is) (nothing_read g.R.Source.gives (IsChosen c.args.choice.now) inside.shift
    inside.notes.capacity inside.notes.capacity inside.count inside.last inside.reader.lines c.pass.new.self.lines
    (queue_after first queue) is_open (open_after first queue.left (c.self.invariant.3 is_open).1) skipped.1
    c.pass.ensures.some was)

pub returns-clause-reads : goal.returns-clause-reads
returns-clause-reads g c =
    let inside = c.self.inside in
    let first = drop inside.written inside.first in
    let queue = queue_of inside.notes 0 in
    let is_open = ap (λ feed. feed.notes.closed) c.self.view_is ∙ c.requires.room.0 in
    let was = rw (← c.self.view_is) at c.requires.some in
    let text = (rw c.in-Ok-Some.field-0-is at c.in-Ok-Some.ensures.text) c.if-not-is_chosen.false in
    let is_new = ap (λ queues. queue_after first (queue_of queues 0)) c.store_line.ensures
    ∙ ap (queue_after first) (set_there inside.notes _ c.self.invariant.1)
    ∙ after_longer first queue (LineNote c.in-Ok-Some.passed.text) in
    rw (← c.self.view_is) (line_read g.R.Source.gives (IsChosen c.args.choice.now) inside.shift inside.notes.capacity
    (c.store_line.new.self).capacity inside.count inside.last inside.reader.lines c.pass.new.self.lines
    (queue_after first queue) is_open (open_after first queue.left (c.self.invariant.3 is_open).1)
    c.in-Ok-Some.passed.text text c.pass.ensures.some (queue_after first (queue_of c.store_line.new.self 0)) is_new was)

pub returns-in-Ok-None-clause-reads : goal.returns-in-Ok-None-clause-reads
returns-in-Ok-None-clause-reads g c =
    let inside = c.self.inside in
    let first = drop inside.written inside.first in
    let queue = queue_of inside.notes 0 in
    let is_open = ap (λ feed. feed.notes.closed) c.self.view_is ∙ c.requires.room.0 in
    let was = rw (← c.self.view_is) at c.requires.some in
    let over = rw c.in-Ok-None.field-0-is at c.in-Ok-None.ensures.over in
    let is_new = ap (λ queues. queue_after first (queue_of queues 0)) c.store_end.ensures
    ∙ ap (queue_after first) (set_there inside.notes _ c.self.invariant.1)
    ∙ after_longer first queue (EndNote c.note.result) in
    rw (← c.self.view_is) (end_read g.R.Source.gives (IsChosen c.args.choice.now) inside.shift inside.notes.capacity
    (c.store_end.new.self).capacity inside.count inside.last inside.reader.lines c.pass.new.self.lines
    (queue_after first queue) is_open (open_after first queue.left (c.self.invariant.3 is_open).1) None over
    c.note.result (c.note.ensures ∙ ap end_of c.new-in-Ok-None.ensures)
    (queue_after first (queue_of c.store_end.new.self 0)) is_new was)

pub returns-in-Err-clause-reads : goal.returns-in-Err-clause-reads
returns-in-Err-clause-reads g c =
    let inside = c.self.inside in
    let first = drop inside.written inside.first in
    let queue = queue_of inside.notes 0 in
    let is_open = ap (λ feed. feed.notes.closed) c.self.view_is ∙ c.requires.room.0 in
    let was = rw (← c.self.view_is) at c.requires.some in
    let is_new = ap (λ queues. queue_after first (queue_of queues 0)) c.store_end-in-Err.ensures
    ∙ ap (queue_after first) (set_there inside.notes _ c.self.invariant.1)
    ∙ after_longer first queue (EndNote c.note-in-Err.result) in
    rw (← c.self.view_is) (end_read g.R.Source.gives (IsChosen c.args.choice.now) inside.shift inside.notes.capacity
    (c.store_end-in-Err.new.self).capacity inside.count inside.last inside.reader.lines c.pass.new.self.lines
    (queue_after first queue) is_open (open_after first queue.left (c.self.invariant.3 is_open).1) (Some c.in-Err.at)
    c.in-Err.ensures.refused c.note-in-Err.result (c.note-in-Err.ensures ∙ ap end_of c.new-in-Err.ensures)
    (queue_after first (queue_of c.store_end-in-Err.new.self 0)) is_new was)

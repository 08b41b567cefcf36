use Rattle.std.proofs.Common.{◌∙◌, None, length, ap}
use Rattle.city_feature.specs.Choice.{IsChosen}
use Rattle.tile_handoff.specs.Queues.{longer, queue_of}
use Rattle.tile_handoff.specs.declared.note.Note.TheVariants.{End as EndNote}
use Rattle.tile_merge.specs.EndNotes.{end_of}
use Rattle.tile_merge.specs.Feeds.{queue_after}
use Rattle.tile_merge.specs.Opened.{OpenState}
use Rattle.tile_merge.specs.Rounds.{IsFeedOf}
use Rattle.tile_merge.proofs.Feeding.{feed_begins, feed_stops, set_there}
use Rattle.tile_merge.proofs.merging.feed.Feed.new.Goals as goal
use Rattle.tile_merge.proofs.merging.feed.Feed.new.Goals.{in-Ok, in-Err}

pub returns : goal.returns
returns g c =
    let gives = g.R.Source.gives in
    let chosen = IsChosen c.args.choice.now in
    let tile : OpenState g.row.R.Denot = record { unread = c.tile.inside.reader; line = c.tile.inside.line } in
    let now = c.take_held.new.self in
    let made = c.match-take_held in
    let is : IsFeedOf gives chosen tile c.args.shift (record {
      unread = now.lines;
      shift = c.args.shift;
      capacity = made.notes.capacity;
      notes = queue_after made.first (queue_of made.notes 0);
      count = c.len.result;
      last = None;
    }) = elim made.branch [
      | in-Ok w ↦ rw (w.first-is, w.notes-is) (feed_begins gives chosen tile c.args.shift c.args.notes.capacity now.lines
          w.in-Ok.texts w.in-Ok.ensures.texts c.take_held.ensures.some (queue_of c.args.notes 0) c.requires.empty
          c.len.result (c.len.ensures.count ∙ ap length w.first-is))
      | in-Err w ↦
          let note = EndNote w.note.result in
          let is_queue = ap (λ queues. queue_of queues 0) w.store_end.ensures ∙ set_there c.args.notes _ c.requires.one
          ∙ ap (λ queue. longer queue note) c.requires.empty in
          rw (w.first-is, w.notes-is) (feed_stops gives chosen tile c.args.shift w.store_end.new.self.capacity now.lines
          w.in-Err.at w.in-Err.ensures.refused w.none-first.result w.none-first.ensures w.note.result
          (w.note.ensures ∙ ap end_of w.new.ensures) (queue_of w.store_end.new.self 0) is_queue c.len.result)
    ] in
    rw (← c.tile.view_is) is

use Rattle.std.proofs.Common.{◌≡◌, ◌∙◌, length, sym, ap, subst}
use Rattle.rtrb.specs.Ring.{received, sent}
use Rattle.tile_handoff.specs.Ends.{notes_put, notes_carried, notes_taken}
use Rattle.tile_handoff.specs.Notes.{has_end}
use Rattle.tile_merge.specs.Threads.{RunningState, HasGiven, TellsEnd, is_ended}
use Rattle.tile_merge.specs.Feeds.{Course}
use Rattle.tile_merge.proofs.Taken.{has_given, has_its_end, some_end}
use Rattle.tile_merge.proofs.merging.threaded.running.RunningTile.finish.Goals as goal

pub returns : goal.returns
returns g c =
    let inside = c.self.inside in
    let promise = inside.thread.promise in
    let taken = notes_taken inside.receiver in
    let ended = some_end inside.last (ap is_ended c.self.view_is ∙ c.requires) in
    let told = subst (λ last. TellsEnd last taken) ended.1 c.self.invariant.2 in
    let drained = c.in-Ok.ensures.drained (ap has_end told.2 ∙ has_its_end told.0 told.1) in
    let finished = c.join-closed.result in
    let before = received promise.cancellation.value.consumer in
    let Unasked = received finished.cancellation.consumer ≡ before in
    let given = has_given g.R.Source.gives promise.tile.value inside.first c.self.invariant.5 inside.last
    (length (sent inside.canceller.producer)) Unasked ended.0 ended.1 (notes_put promise.sender.value) (notes_carried finished.closed) taken
    c.self.invariant.0 c.join-closed.ensures.2 (c.in-Ok.ensures.whole drained) c.self.invariant.2
    (λ none. c.confirm.ensures none ∙ sym c.self.invariant.4) in
    let Given : RunningState g.row.R.Denot → Type 0 = λ tile. (course : Course)
    × HasGiven g.R.Source.gives tile course in
    subst Given c.self.view_is given

use Rattle.std.proofs.Common.{ap}
use Rattle.tile_handoff.specs.Queues.{longer}
use Rattle.tile_handoff.specs.declared.note.Note.TheVariants.{End}
use Rattle.tile_handoff.proofs.Queueing.{change_seen}
use Rattle.tile_handoff.specs.KeptQueues.{queue_in}
use Rattle.tile_handoff.proofs.queues.Queues.store_end.Goals as goal

pub returns : goal.returns
returns c = change_seen (λ queue. longer queue (End c.args.end)) c.self.inside _ c.args.t c.index_mut.result.now _
    c.self.view_is c.requires.within c.index_mut.ensures.value (ap queue_in c.close.ensures)

use Rattle.std.proofs.Common.{ap}
use Rattle.tile_handoff.specs.Queues.{shorter}
use Rattle.tile_handoff.proofs.Queueing.{change_seen}
use Rattle.tile_handoff.specs.KeptQueues.{queue_in}
use Rattle.tile_handoff.proofs.queues.Queues.fetch.Goals as goal

pub returns-clause-rest : goal.returns-clause-rest
returns-clause-rest c = change_seen shorter c.self.inside _ c.args.t c.index_mut.result.now _ c.self.view_is
    c.requires.within c.index_mut.ensures.value (ap queue_in c.fetch.ensures.rest)

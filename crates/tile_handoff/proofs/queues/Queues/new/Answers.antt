use Rattle.std.proofs.Common.{ap, arith}
use Rattle.tile_handoff.specs.KeptQueues.{queue_in}
use Rattle.tile_handoff.proofs.Queueing.{map-empty}
use Rattle.tile_handoff.proofs.queues.Queues.new.Goals as goal

pub returns-clause-empty : goal.returns-clause-empty
returns-clause-empty c =
    let made = c.loop-tile.invariant in
    ap (λ x. record { capacity = c.args.capacity; tiles = x })
    (map-empty c.loop-tile.queues.items c.args.tiles (omega arith)
    (λ t default within. ap queue_in (made.fresh t default (omega arith))))

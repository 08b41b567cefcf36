use Rattle.std.proofs.Common.{◌++◌, sym, ap, ◌∙◌}
use Rattle.rtrb.specs.Ring.{known_items}
use Rattle.tile_handoff.specs.Notes.{are_ended}
use Rattle.tile_handoff.proofs.Ending.{nothing_after_end}
use Rattle.tile_handoff.proofs.ring.receiver.Receiver.confirm.Goals as goal

pub returns-clause-drained : goal.returns-clause-drained
returns-clause-drained c taken =
    let looked = c.slots_beside-left.ensures in
    let left = known_items c.slots_beside-left.new.self in
    let all = ap (λ x. x ++ left) (sym looked.looked.1) ∙ looked.fifo ∙ looked.producer.1 in
    looked.value ∙ nothing_after_end _ left (ap are_ended all ∙ c.args.closed.ended) taken

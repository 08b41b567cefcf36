use Rattle.tile_handoff.proofs.Histories.{in_order, whole_at_end, nothing_after_close}
use Rattle.tile_handoff.proofs.history.order_and_close.Goals as goal

pub returns : goal.returns
returns c = record { in_order = in_order; whole = whole_at_end; closed = nothing_after_close }

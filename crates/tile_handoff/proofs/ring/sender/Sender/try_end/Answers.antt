use Rattle.tile_handoff.proofs.Ending.{are_ended-push}
use Rattle.tile_handoff.proofs.ring.sender.Sender.try_end.Goals as goal

pub invariant_of-result : goal.invariant_of-result
invariant_of-result c = record {
  ended = rw (c.push_reserved.ensures.sent.0, c.is_full.ensures.looked.1)
      (are_ended-push _ c.args.end c.args.self.endless);
}

use Rattle.std.proofs.Common.{[], ap, map, replicate, subst, sym, ◌∙◌}
use Rattle.tile_handoff.specs.Queues.{empty_queue}
use Rattle.tile_handoff.specs.Reflects.{Reflects}
use Rattle.tile_handoff.proofs.Seeing.{map-empty}
use Rattle.tile_handoff.proofs.Reflecting.{fresh_reflects}
use Rattle.tile_handoff.proofs.row.Row.new.Goals as goal

pub returns-clause-fresh : goal.returns-clause-fresh
returns-clause-fresh c =
    ap (λ x. record { capacity = x.capacity; marks = c.new-2.result; left = map (λ queue. queue.left) x.tiles })
    c.in_ok-queues.ensures.empty
    ∙ ap (λ x. record {
      capacity = c.args.capacity;
      marks = x;
      left =
          map (λ queue. queue.left) (replicate c.args.tiles empty_queue);
    }) c.new-2.ensures
    ∙ ap (λ x. record { capacity = c.args.capacity; marks = []; left = x }) (map-empty c.args.tiles)

pub returns-clause-reflects : goal.returns-clause-reflects
returns-clause-reflects c = subst (λ x. Reflects x []) (sym (returns-clause-fresh c))
    (fresh_reflects c.args.tiles c.args.capacity)

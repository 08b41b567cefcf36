-- The events so far are those of the list, and each reply makes the history longer.
use Rattle.std.proofs.Common.{◌≡◌, ◌+◌, List, [], ◌∷◌, ◌++◌, length, sym, ◌∙◌, ap, subst, arith, length-append}
use Rattle.std.proofs.lemmas.List.{length-replicate, map-id}
use Rattle.std.proofs.lemmas.Iterator.Adapters.{YieldsList-from_vec}
use Rattle.std.proofs.lemmas.Iterator.Consumers.{YieldsList-turn, YieldsList-end}
use Rattle.tile_handoff.specs.declared.event.Event.{Event}
use Rattle.tile_handoff.specs.declared.event.Reply.{Reply}
use Rattle.tile_handoff.specs.History.{history_of, event_tile, IsLegal}
use Rattle.tile_handoff.specs.Reflects.{Reflects}
use Rattle.tile_handoff.proofs.Histories.{in_order, whole_at_end, nothing_after_close}
use Rattle.tile_handoff.proofs.Reflecting.{legal_empty, reflects_push}
use Rattle.tile_handoff.proofs.runs.run.Goals as goal

-- two lists of one length have one length with one more item each
same_length : (xs : List Reply) (x : Reply) (ys : List Event) (y : Event) → length xs ≡ length ys
    → length (xs ++ x ∷ []) ≡ length (ys ++ y ∷ [])
same_length xs x ys y same = length-append xs (x ∷ []) ∙ ap (λ n. n + 1) same ∙ sym (length-append ys (y ∷ []))

pub apply-requires : goal.apply-requires
apply-requires c =
    let turn = YieldsList-turn (YieldsList-from_vec {s = c.into_iter-event-iterator.result} c.args.events
    (c.into_iter-event-iterator.ensures.into_iter_gives.0 ∙ c.into_vec-event-items.ensures)
    (c.into_iter-event-iterator.ensures.into_iter_gives.1 ∙ c.into_vec-event-items.result.ok.0
    ∙ ap length c.into_vec-event-items.ensures)) c.loop-event.yielded c.loop-event.event-iterator
    c.loop-event.yielded_by c.next.result c.next.new.self c.in-Some.event c.in-Some.is c.next.ensures.steps in
    let small = c.requires.events (length c.loop-event.yielded) c.in-Some.event turn.0 in
    omega (arith, ap event_tile turn.1, small, c.loop-event.invariant.tiles)

pub loop-event-init : goal.loop-event-init
loop-event-init c =
    record {
      can_next = tt;
      is_finite = tt;
      answered = ap length c.new-replies.ensures.items;
      legal = legal_empty c.args.capacity;
      reflects = c.in_ok-row.ensures.reflects;
      capacity = ap (λ x. x.capacity) c.in_ok-row.ensures.fresh;
      tiles = ap (λ x. length x.left) c.in_ok-row.ensures.fresh ∙ length-replicate c.args.tiles [];
    }

pub loop-event-preserved : goal.loop-event-preserved
loop-event-preserved c =
    let before = c.loop-event in
    let grown = c.in_ok-push.ensures.items in
    let longer = reflects_push c.args.capacity before.row c.apply.new.row before.yielded before.replies.items
    c.push.new.self.items c.in-Some.event c.in_ok-reply.reply before.invariant.capacity before.invariant.answered
    grown before.invariant.legal before.invariant.reflects c.in_ok-reply.ensures.answer in
    record {
      can_next = tt;
      is_finite = tt;
      answered = ap length grown ∙ same_length before.replies.items c.in_ok-reply.reply before.yielded c.in-Some.event
          before.invariant.answered;
      legal = longer.0;
      reflects = longer.1;
      capacity = c.in_ok-reply.ensures.shape.0 ∙ before.invariant.capacity;
      tiles = c.in_ok-reply.ensures.shape.1 ∙ before.invariant.tiles;
    }

pub returns : goal.returns
returns c =
    let end = YieldsList-end (YieldsList-from_vec {s = c.into_iter-event-iterator.result} c.args.events
    (c.into_iter-event-iterator.ensures.into_iter_gives.0 ∙ c.into_vec-event-items.ensures)
    (c.into_iter-event-iterator.ensures.into_iter_gives.1 ∙ c.into_vec-event-items.result.ok.0
    ∙ ap length c.into_vec-event-items.ensures)) c.loop-event.yielded c.loop-event.event-iterator
    c.loop-event.yielded_by c.next.result c.next.new.self c.in-None.is c.next.ensures.steps in
    let events = sym (map-id c.loop-event.yielded) ∙ end.0 in
    let whole = ap (λ x. history_of x c.loop-event.replies.items) events
    ∙ ap (history_of c.args.events) (sym c.from_vec-replies.ensures) in
    let legal : IsLegal c.args.capacity (history_of c.args.events c.from_vec-replies.result) =
    subst (IsLegal c.args.capacity) whole c.loop-event.invariant.legal in
    record {
      one_reply_each = ap length c.from_vec-replies.ensures ∙ c.loop-event.invariant.answered ∙ end.1;
      legal = legal;
      reflects = subst (Reflects c.loop-event.row) whole c.loop-event.invariant.reflects;
      shape = (c.loop-event.invariant.capacity, c.loop-event.invariant.tiles);
      in_order = in_order c.args.capacity _ legal;
      whole = whole_at_end c.args.capacity _ legal;
      closed = nothing_after_close c.args.capacity _ legal;
      memory = tt;
    }

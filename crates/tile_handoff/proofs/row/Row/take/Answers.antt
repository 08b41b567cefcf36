-- The notes left of the tile, seen by its queue, say how the take is answered.
use Rattle.std.proofs.Common.{◌+◌, length, sym, ◌∙◌, ap, subst, refl, arith}
use Rattle.std.specs.Prelude.{slice_get}
use Rattle.std.specs.Vec.{with_item}
use Rattle.std.proofs.lemmas.Bool.{eqb-true, eqb-false}
use Rattle.std.proofs.lemmas.Result.{err_from_is_err_and}
use Rattle.tile_handoff.specs.Kept.{IsWellKept}
use Rattle.tile_handoff.specs.Takes.{Takes}
use Rattle.tile_handoff.proofs.Seeing.{within_queues, left_is, closed_is, count_is, without_first_is, kept_by_take}
use Rattle.tile_handoff.proofs.Taking.{takes_answer, some_left_answer, fetch_takes, none_left}
use Rattle.tile_handoff.proofs.row.Row.take.Goals as goal
use Rattle.tile_handoff.proofs.row.Row.take.Goals.{then-is_closed, else-is_closed}

pub returns-then-is_empty-clause-took : goal.returns-then-is_empty-clause-took
returns-then-is_empty-clause-took c =
    let row = c.args.self.now in
    let t = c.args.t in
    let empty = sym (left_is c.self.inside row t c.self.view_is c.self.invariant c.requires)
    ∙ none_left _ (eqb-true _ _ (sym c.is_empty.ensures ∙ c.if-is_empty.true)) in
    let closed = sym (closed_is c.self.inside row t c.self.view_is c.self.invariant c.requires)
    ∙ sym c.is_closed.ensures in
    elim c.if-is_closed.branch [
      | then-is_closed w ↦ subst (λ x. Takes row t x row) (sym w.result-is) (empty, closed ∙ w.if-is_closed.true, refl)
      | else-is_closed w ↦ subst (λ x. Takes row t x row) (sym w.result-is) (empty, closed ∙ w.if-is_closed.false, refl)
    ]

pub returns-then-is_empty-clause-answer : goal.returns-then-is_empty-clause-answer
returns-then-is_empty-clause-answer c = takes_answer c.args.self.now c.args.self.now c.args.t c.if-is_closed.result
    c.requires (returns-then-is_empty-clause-took c)

pub invariant_of-self : goal.invariant_of-self
invariant_of-self c =
    subst (λ x. IsWellKept (record { queues = c.self.inside.queues; taken = c.self.inside.taken; marks = x }))
    (sym c.in_err-push.ensures.items) c.self.invariant

pub returns-in_err-push-clause-answer : goal.returns-in_err-push-clause-answer
returns-in_err-push-clause-answer c =
    let some = eqb-false _ _ (sym c.is_empty.ensures ∙ c.if-is_empty.false) in
    let left = some_left_answer c.args.self.now c.args.t
    (omega (
      arith,
      some,
      ap length (left_is c.self.inside c.args.self.now c.args.t c.self.view_is c.self.invariant
          c.requires),
    )) in
    rw (err_from_is_err_and c.from_residual.result c.from_residual.ensures.1).1 left

pub invariant_of-self-2 : goal.invariant_of-self-2
invariant_of-self-2 c =
    let within = within_queues c.self.inside c.args.self.now c.args.t c.self.view_is c.self.invariant c.requires in
    let some = eqb-false _ _ (sym c.is_empty.ensures ∙ c.if-is_empty.false) in
    kept_by_take c.self.inside (record {
      queues = c.fetch.new.self;
      taken =
          with_item c.self.inside.taken c.args.t (c.index_mut.result.now + 1);
      marks = c.push.new.self;
    }) c.args.t
    c.index.result.now c.index_mut.result.now c.self.invariant within (omega (arith, some)) c.fetch.ensures.rest
    c.index_mut.ensures.value refl c.in_ok-push.ensures.items c.push.ensures.within

pub returns-clause-took : goal.returns-clause-took
returns-clause-took c =
    let row = c.args.self.now in
    let t = c.args.t in
    let left = left_is c.self.inside row t c.self.view_is c.self.invariant c.requires in
    let count = count_is c.self.inside row t c.self.view_is c.self.invariant c.requires c.index.result.now
    c.index.ensures in
    let is = without_first_is c.self.inside (record {
      queues = c.fetch.new.self;
      taken = with_item c.self.inside.taken t (c.index_mut.result.now + 1);
      marks =
          c.push.new.self;
    }) row t c.index.result.now c.self.view_is left c.fetch.ensures.rest count
    c.in_ok-push.ensures.items in
    fetch_takes row _ t c.fetch.result c.took_of.result c.requires
    (ap (λ x. slice_get x 0) (sym left) ∙ c.fetch.ensures.note) c.took_of.ensures is

pub returns-clause-answer : goal.returns-clause-answer
returns-clause-answer c = takes_answer c.args.self.now _ c.args.t c.took_of.result c.requires (returns-clause-took c)

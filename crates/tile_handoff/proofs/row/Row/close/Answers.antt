-- The state of the tile, seen by its queue, says how the close is answered.
use Rattle.std.proofs.Common.{◌+◌, cond, [], ◌∷◌, ◌++◌, length, ap, sym, ◌∙◌, refl, subst}
use Rattle.tile_handoff.specs.declared.mark.Mark.{Mark}
use Rattle.tile_handoff.specs.declared.mark.Kind.TheVariants.{Close}
use Rattle.tile_handoff.specs.declared.note.Note.TheVariants.{End}
use Rattle.tile_handoff.specs.Kept.{IsWellKept}
use Rattle.tile_handoff.specs.Row.{taken_in}
use Rattle.tile_handoff.proofs.Seeing.{within_queues, left_is, count_is, seen_closed, seen_full, queue_room, seen_room, with_note_is, kept_by_note}
use Rattle.tile_handoff.proofs.Reflecting.{close_closed_answer, close_full_answer, close_memory_answer, close_accepted_answer}
use Rattle.tile_handoff.proofs.row.Row.close.Goals as goal

pub returns-then-is_closed-clause-cause : goal.returns-then-is_closed-clause-cause
returns-then-is_closed-clause-cause c = seen_closed c.self.inside c.args.self.now c.args.t c.self.view_is
    c.self.invariant c.requires (sym c.is_closed.ensures ∙ c.if-is_closed.true)

pub returns-then-is_closed-clause-answer : goal.returns-then-is_closed-clause-answer
returns-then-is_closed-clause-answer c = close_closed_answer c.args.self.now c.args.t c.args.end
    (seen_closed c.self.inside c.args.self.now c.args.t c.self.view_is c.self.invariant c.requires
    (sym c.is_closed.ensures ∙ c.if-is_closed.true))

pub returns-then-is_full-clause-cause : goal.returns-then-is_full-clause-cause
returns-then-is_full-clause-cause c = seen_full c.self.inside c.args.self.now c.args.t c.self.view_is c.self.invariant
    c.requires (sym c.is_closed.ensures ∙ c.if-is_closed.false) (sym c.if-is_full.true ∙ c.is_full.ensures.full)

pub returns-then-is_full-clause-answer : goal.returns-then-is_full-clause-answer
returns-then-is_full-clause-answer c = close_full_answer c.args.self.now c.args.t c.args.end
    (seen_full c.self.inside c.args.self.now c.args.t c.self.view_is c.self.invariant c.requires
    (sym c.is_closed.ensures ∙ c.if-is_closed.false) (sym c.if-is_full.true ∙ c.is_full.ensures.full))

pub invariant_of-self : goal.invariant_of-self
invariant_of-self c =
    let mark : Mark = record { tile = c.args.t; kind = Close; number = c.index.result.now + c.len.result } in
    let unmarked = c.push.ensures.items
    ∙ ap (λ b. cond b (c.self.inside.marks ++ mark ∷ []) c.self.inside.marks) c.if-is_err.ensures.negation in
    subst (λ x. IsWellKept (record { queues = c.self.inside.queues; taken = c.self.inside.taken; marks = x }))
    (sym unmarked) c.self.invariant

pub returns-then-is_err-clause-answer : goal.returns-then-is_err-clause-answer
returns-then-is_err-clause-answer c = close_memory_answer c.args.self.now c.args.t c.args.end
    (seen_room c.self.inside c.args.self.now c.args.t c.self.view_is c.self.invariant c.requires
    (sym c.is_closed.ensures ∙ c.if-is_closed.false) (sym c.if-is_full.false ∙ c.is_full.ensures.full))

pub invariant_of-self-2 : goal.invariant_of-self-2
invariant_of-self-2 c =
    let within = within_queues c.self.inside c.args.self.now c.args.t c.self.view_is c.self.invariant c.requires in
    let room = queue_room c.self.inside c.args.self.now c.args.t c.self.view_is c.self.invariant c.requires
    (sym c.if-is_full.false ∙ c.is_full.ensures.full) in
    let mark : Mark = record { tile = c.args.t; kind = Close; number = c.index.result.now + c.len.result } in
    let marked = c.push.ensures.items
    ∙ ap (λ b. cond b (c.self.inside.marks ++ mark ∷ []) c.self.inside.marks) c.if-is_err.ensures.negation in
    kept_by_note c.self.inside _ c.args.t (c.index.result.now + c.len.result) (End c.args.end) c.self.invariant within room
    c.store_end.ensures refl marked c.push.ensures.within

pub returns-clause-accepted : goal.returns-clause-accepted
returns-clause-accepted c =
    let row = c.args.self.now in
    let t = c.args.t in
    let room = seen_room c.self.inside row t c.self.view_is c.self.invariant c.requires
    (sym c.is_closed.ensures ∙ c.if-is_closed.false) (sym c.if-is_full.false ∙ c.is_full.ensures.full) in
    let left = left_is c.self.inside row t c.self.view_is c.self.invariant c.requires in
    let count = count_is c.self.inside row t c.self.view_is c.self.invariant c.requires c.index.result.now
    c.index.ensures in
    let numbered = ap (λ n. n + c.len.result) count
    ∙ ap (λ n. taken_in row.marks t + n) (c.len.ensures ∙ ap length left) in
    let marked = c.push.ensures.items ∙ ap (λ b.
    cond b (c.self.inside.marks ++ record { tile = t; kind = Close; number = c.index.result.now + c.len.result }
    ∷ []) c.self.inside.marks) c.if-is_err.ensures.negation in
    let is = with_note_is c.self.inside (record
    { queues = c.store_end.new.self; taken = c.self.inside.taken; marks = c.push.new.self }) row t (End c.args.end)
    (c.index.result.now + c.len.result) c.self.view_is left c.store_end.ensures numbered marked in
    (room, is)

pub returns-clause-answer : goal.returns-clause-answer
returns-clause-answer c =
    let accepted = returns-clause-accepted c in
    close_accepted_answer c.args.self.now c.args.t c.args.end _ c.requires accepted.0 accepted.1

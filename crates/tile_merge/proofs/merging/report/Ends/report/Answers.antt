use Rattle.std.proofs.Common.{sym, ap, ◌∙◌, take_all}
use Rattle.tile_merge.specs.EndNotes.{EndsState, outcomes_in, totals_in}
use Rattle.tile_merge.specs.Told.{first_refusal}
use Rattle.tile_merge.proofs.merging.report.Ends.report.Goals as goal

pub returns-clause-ok : goal.returns-clause-ok
returns-clause-ok c =
    let ends = c.deref-end-items.result.now in
    let inside = ap (λ (all : EndsState). all.ends) c.self.view_is in
    let looked = c.deref.ensures.value ∙ inside in
    let counted = c.deref-end-items.ensures.value ∙ inside in
    let none = ap (λ es. first_refusal 1 (outcomes_in es)) (sym looked) ∙ sym c.first_refusal.ensures
    ∙ c.in_default.is in
    let counts = c.loop-end.invariant.0 ∙ ap totals_in (take_all c.loop-end.end-index ends c.loop-end-test.false
    ∙ counted) in
    (none, c.from_vec.ensures ∙ counts)

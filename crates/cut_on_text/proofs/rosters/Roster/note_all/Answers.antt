use Rattle.std.proofs.Common.{◌∙◌, ◌∷◌, [], get_or, sym, ap}
use Rattle.cut_on_text.specs.Made.{first_uses}
use Rattle.cut_on_text.specs.Rosters.{RosterState}
use Rattle.cut_on_text.proofs.Noted.{first_uses-more}
use Rattle.cut_on_text.proofs.rosters.Roster.note_all.Goals as goal

pub loop-one-preserved : goal.loop-one-preserved
loop-one-preserved c =
    let noted : RosterState → RosterState =
    λ s. record { count = s.count; order = first_uses s.order (get_or c.args.those.now c.loop-one.one-index 0 ∷ []) } in
    c.note.ensures ∙ (ap noted c.loop-one.invariant
    ∙ ap (λ order. record { count = c.args.self.now.count; order = order })
    (sym (first_uses-more c.args.self.now.order c.args.those.now c.loop-one.one-index 0 c.loop-one-test.true)))

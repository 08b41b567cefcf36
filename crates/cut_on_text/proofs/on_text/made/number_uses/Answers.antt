use Rattle.std.proofs.Common.{◌∙◌, [], get_or, sym, ap}
use Rattle.cut_on_text.specs.Made.{first_uses}
use Rattle.cut_on_text.specs.Rosters.{RosterState}
use Rattle.cut_on_text.specs.Skeletons.{uses_at}
use Rattle.cut_on_text.proofs.Noted.{first_uses-flat}
use Rattle.cut_on_text.proofs.on_text.made.number_uses.Goals as goal

pub loop-at-preserved : goal.loop-at-preserved
loop-at-preserved c =
    let uses = uses_at c.args.skeletons.now in
    let i = c.loop-at.at-index in
    let noted : RosterState → RosterState =
    λ s. record { count = s.count; order = first_uses s.order (uses (get_or c.args.places.now i 0)) } in
    c.note_uses.ensures ∙ (ap noted c.loop-at.invariant
    ∙ ap (λ order. record { count = c.args.order.now.count; order = order })
    (sym (first_uses-flat uses [] c.args.places.now i 0 c.loop-at-test.true)))

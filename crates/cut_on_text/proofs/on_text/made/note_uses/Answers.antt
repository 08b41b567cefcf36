use Rattle.std.proofs.Common.{◌∙◌, ◌+◌, ℕ, List, map, sym, ap}
use Rattle.std.specs.List.{slice_range}
use Rattle.cut_on_text.specs.Made.{first_uses}
use Rattle.cut_on_text.specs.Rosters.{RosterState}
use Rattle.cut_on_text.specs.Skeletons.{LeafPlace, place_at}
use Rattle.cut_on_text.proofs.Noted.{first_uses-append}
use Rattle.cut_on_text.proofs.on_text.made.note_uses.Goals as goal

pub returns : goal.returns
returns c =
    let skeletons = c.args.skeletons.now in
    let at = c.args.at in
    let order = c.args.order.now.order in
    let named : List LeafPlace → List ℕ = map (λ (leaf : LeafPlace). leaf.vertex) in
    let later : RosterState → RosterState =
    λ s. record { count = s.count; order = first_uses s.order (named c.last_leaves.result.now) } in
    let both : List LeafPlace → List LeafPlace → RosterState =
    λ x y. record { count = c.args.order.now.count; order = first_uses (first_uses order (named x)) (named y) } in
    let geometry = slice_range skeletons.leaves (place_at skeletons at).split (place_at skeletons (at + 1)).leaves in
    let address = slice_range skeletons.leaves (place_at skeletons at).leaves (place_at skeletons at).split in
    c.note_leaves-2.ensures ∙ (ap later c.note_leaves.ensures
    ∙ (ap (λ x. both x c.last_leaves.result.now) c.first_leaves.ensures ∙ (ap (both geometry) c.last_leaves.ensures
    ∙ ap (λ l. record { count = c.args.order.now.count; order = l })
    (sym (first_uses-append order (named geometry) (named address))))))

use Rattle.std.proofs.Common.{◌∙◌, ◌∷◌, [], map, take, sym, ap}
use Rattle.cut_on_text.specs.Made.{first_uses}
use Rattle.cut_on_text.specs.Rosters.{RosterState}
use Rattle.cut_on_text.specs.Skeletons.{LeafPlace}
use Rattle.cut_on_text.proofs.Noted.{first_uses-mapped}
use Rattle.cut_on_text.proofs.on_text.made.note_leaves.Goals as goal

pub loop-leaf-preserved : goal.loop-leaf-preserved
loop-leaf-preserved c =
    let noted : RosterState → RosterState =
    λ s. record { count = s.count; order = first_uses s.order (c.vertex.result ∷ []) } in
    c.note.ensures ∙ (ap noted c.loop-leaf.invariant
    ∙ (ap (λ n. record {
      count = c.args.order.now.count;
      order = first_uses (first_uses c.args.order.now.order (map (λ (leaf : LeafPlace). leaf.vertex)
          (take c.loop-leaf.leaf-index c.args.leaves.now))) (n ∷ []);
    }) c.vertex.ensures
    ∙ ap (λ order. record { count = c.args.order.now.count; order = order })
    (sym (first_uses-mapped (λ (leaf : LeafPlace). leaf.vertex) c.args.order.now.order c.args.leaves.now
    c.loop-leaf.leaf-index c.leaf-item.result c.loop-leaf-test.true (sym c.leaf-item.is)))))

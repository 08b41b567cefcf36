use Rattle.std.proofs.Common.{map, refl, ap, ◌∙◌}
use Rattle.city_json.specs.Tree.{tree}
use Rattle.cut_by_value.proofs.Copies.{in_list}
use Rattle.cut_by_value.proofs.relabelling.InItemsChange.changed.Goals as goal

pub returns-clause-ok : goal.returns-clause-ok
returns-clause-ok g c =
    let change = g.C.Change.change c.args.self.now.inner in
    in_list change _ _ c.in-List.items c.in_ok-changed_items.field-0 c.in-List.is refl
    (c.in_ok-changed_items.ensures.ok ∙ ap (λ l. map change (map tree l)) c.deref.ensures.value)

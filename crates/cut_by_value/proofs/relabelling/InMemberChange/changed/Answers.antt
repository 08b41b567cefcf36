use Rattle.std.proofs.Common.{map, refl, ap, ◌∙◌}
use Rattle.city_json.specs.Tree.{named_tree}
use Rattle.city_families.specs.Boundaries.{changed}
use Rattle.cut_by_value.proofs.Copies.{in_members}
use Rattle.cut_by_value.proofs.relabelling.InMemberChange.changed.Goals as goal

pub returns-clause-ok : goal.returns-clause-ok
returns-clause-ok g c =
    let name = c.args.self.now.name.now in
    let change = g.C.Change.change c.args.self.now.inner in
    in_members name change _ _ c.in-Map.members c.in_ok-changed_members.field-0 c.in-Map.is refl
    (c.in_ok-changed_members.ensures.ok ∙ ap (λ ms. map (changed name change) (map named_tree ms)) c.deref.ensures.value)

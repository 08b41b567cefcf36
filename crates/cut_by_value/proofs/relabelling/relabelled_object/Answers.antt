use Rattle.std.proofs.Common.{map, refl, ap, ◌∙◌}
use Rattle.city_families.specs.Relabelling.{own_text}
use Rattle.city_json.specs.Tree.{named_tree}
use Rattle.city_families.specs.Boundaries.{relabelled_part}
use Rattle.cut_by_value.proofs.Copies.{in_parts}
use Rattle.cut_by_value.proofs.relabelling.relabelled_object.Goals as goal

pub returns-clause-ok : goal.returns-clause-ok
returns-clause-ok c =
    in_parts (own_text c.args.table.now) _ _ c.in-Map.members c.in_ok-members_with_parts.field-0 c.in-Map.is refl
    (c.in_ok-members_with_parts.ensures.ok ∙ ap
    (λ ms. map (relabelled_part (own_text c.args.table.now)) (map named_tree ms)) c.deref.ensures.value)

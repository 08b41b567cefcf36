use Rattle.std.proofs.Common.{IfSome, length, refl, slice_range, subst}
use Rattle.city_json.specs.FrontMembers.{HasFrontParts}
use Rattle.city_json.proofs.FrontMembers.{object_has_parts, object_leaves}
use Rattle.city_json.proofs.Places.{slice_back}
use Rattle.city_json.proofs.compacting.members.members_at.Goals as goal

pub returns-clause-leaves : goal.returns-clause-leaves
returns-clause-leaves c =
    let text = c.args.text.now in
    object_leaves text _ _ c.args.at _ (slice_back text c.args.at (length text) refl c.requires)
    (subst (λ found. IfSome found (λ found.
    HasFrontParts (slice_range text c.args.at (length text)) found.parts.items found.end))
    c.in-Some.is c.in_ok-found.ensures.is)

pub returns-clause-parts : goal.returns-clause-parts
returns-clause-parts c =
    let text = c.args.text.now in
    object_has_parts text _ _ c.args.at _ (slice_back text c.args.at (length text) refl c.requires)
    (subst (λ found. IfSome found (λ found.
    HasFrontParts (slice_range text c.args.at (length text)) found.parts.items found.end))
    c.in-Some.is c.in_ok-found.ensures.is)

use Rattle.std.proofs.Common.{IfNone, IfSome, subst}
use Rattle.city_json.specs.FrontMembers.{HasFrontParts, HasNoObject}
use Rattle.city_json.proofs.FrontMembers.{no_whole_object, whole_parts}
use Rattle.city_json.proofs.compacting.members.members_of_compact.Goals as goal

pub returns-in_default-clause-none : goal.returns-in_default-clause-none
returns-in_default-clause-none c =
    no_whole_object c.args.text.now
    (subst (λ found. IfNone found (HasNoObject c.args.text.now)) c.in_default.is c.in_ok-found.ensures.none)

pub returns-clause-some : goal.returns-clause-some
returns-clause-some c =
    let text = c.args.text.now in
    whole_parts text _ c.in-Some.found.end
    (subst (λ found. IfSome found (λ found. HasFrontParts text found.parts.items found.end)) c.in-Some.is
    c.in_ok-found.ensures.is)

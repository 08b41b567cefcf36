use Rattle.std.proofs.Common.{◌+◌, ◌≤◌, arith, drop, length, IfSome, subst}
use Rattle.city_json.proofs.CompactMembers.{member_leaves}
use Rattle.city_json.specs.CompactEnds.{LeavesValue}
use Rattle.cut_on_text.proofs.on_text.overview.object_at.Goals as goal

pub returns-clause-is : goal.returns-clause-is
returns-clause-is c =
    let text = c.args.text.now in
    let colon = c.in_ok-colon.ensures in
    let within = subst (λ found. IfSome found (λ found. found.end ≤ length text)) c.in-Ok-Some.field-0-is
    c.in-Ok-Some.ensures.within in
    let leaves = subst (λ found. IfSome found (λ found. LeavesValue 128 (drop (c.in_ok-colon.colon + 1) text) (drop found.end text)))
    c.in-Ok-Some.field-0-is c.in-Ok-Some.ensures.leaves in
    member_leaves text c.args.at c.in_ok-colon.colon c.in-Ok-Some.found.end
    (omega (arith, colon.onward, colon.within)) colon.within within colon.is leaves

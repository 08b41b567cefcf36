use Rattle.std.proofs.Common.{◌≡◌, ◌↔◌, drop}
use Rattle.city_json.specs.Tree.{members_tree}
use Rattle.city_feature.specs.Joined.{HasClash, union}
use Rattle.city_feature.specs.Values.{lent_members}
use Rattle.city_feature.proofs.joining.extensions.Extensions.take_in.Given as goal

-- what is known and the extensions from here on are as what was known and all extensions
abbrev pub invariant-loop-member : goal.invariant-loop-member
invariant-loop-member l =
    let now = lent_members l.self in
    let old = lent_members l.fn.self in
    let rest = members_tree (drop l.member-index l.member-items) in
    record {
      known : union now rest ≡ union old (members_tree l.member-items);
      clash : HasClash now rest ↔ HasClash old (members_tree l.member-items);
    }

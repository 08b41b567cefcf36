use Rattle.std.proofs.Common.{◌≡◌, map, take}
use Rattle.city_families.specs.Relabelling.{own_text}
use Rattle.city_json.specs.Tree.{named_tree}
use Rattle.city_families.specs.Boundaries.{relabelled_part}
use Rattle.cut_by_value.proofs.relabelling.members_with_parts.Given as goal

abbrev pub invariant-loop-member : goal.invariant-loop-member
invariant-loop-member l = map named_tree l.copies.items
    ≡ map (relabelled_part (own_text l.table)) (map named_tree (take l.member-index l.members))

use Rattle.std.proofs.Common.{◌≡◌, map, take}
use Rattle.city_json.specs.Tree.{named_tree}
use Rattle.city_families.specs.Boundaries.{changed}
use Rattle.cut_by_value.proofs.relabelling.changed_members.Given as goal

abbrev pub invariant-loop-member : goal.invariant-loop-member
invariant-loop-member g l = map named_tree l.copies.items
    ≡ map (changed l.name (g.C.Change.change l.change)) (map named_tree (take l.member-index l.members))

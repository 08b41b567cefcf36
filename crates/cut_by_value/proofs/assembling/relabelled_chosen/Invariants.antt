use Rattle.std.proofs.Common.{◌≡◌, map, take}
use Rattle.city_families.specs.Relabelling.{own_text}
use Rattle.city_json.specs.Tree.{named_tree}
use Rattle.city_families.specs.Boundaries.{relabelled_objects}
use Rattle.city_families.specs.Chosen.{chosen_objects}
use Rattle.cut_by_value.proofs.assembling.relabelled_chosen.Given as goal

abbrev pub invariant-loop-member : goal.invariant-loop-member
invariant-loop-member l = map named_tree l.copies.items
    ≡ relabelled_objects (own_text l.table) (chosen_objects (take l.member-index l.chosen))

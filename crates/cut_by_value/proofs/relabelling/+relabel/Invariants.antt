use Rattle.std.proofs.Common.{◌≡◌, map, take}
use Rattle.city_families.specs.Relabelling.{own_text}
use Rattle.city_json.specs.Tree.{tree}
use Rattle.city_families.specs.Leaves.{relabelled}
use Rattle.cut_by_value.proofs.relabelling.+relabel.Given as goal

abbrev pub invariant-relabelled_items-loop-item : goal.invariant-relabelled_items-loop-item
invariant-relabelled_items-loop-item l = map tree l.copies.items
    ≡ map (relabelled (own_text l.table)) (map tree (take l.item-index l.items))

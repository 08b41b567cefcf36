use Rattle.std.proofs.Common.{◌≡◌, map, take}
use Rattle.city_json.specs.Tree.{tree}
use Rattle.cut_by_value.proofs.relabelling.changed_items.Given as goal

abbrev pub invariant-loop-item : goal.invariant-loop-item
invariant-loop-item g l = map tree l.copies.items
    ≡ map (g.C.Change.change l.change) (map tree (take l.item-index l.items))

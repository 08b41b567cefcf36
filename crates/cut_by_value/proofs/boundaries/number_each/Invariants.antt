use Rattle.std.proofs.Common.{◌≡◌, ◌++◌, ℕ, List, length, map, take}
use Rattle.std.specs.List.{flat_map, AllByRecursion}
use Rattle.city_json.specs.Tree.{tree}
use Rattle.city_families.specs.Leaves.{leaves}
use Rattle.city_families.specs.Numbered.{AreNumbered}
use Rattle.cut_by_value.proofs.boundaries.number_each.Given as goal

abbrev pub invariant-loop-item : goal.invariant-loop-item
invariant-loop-item g l =
    record {
      long : length l.numbering.table.items ≡ length l.fn.numbering.table.items;
      bounded : AllByRecursion (g.H.HoldsBoundaries.is_held l.kind (length l.fn.numbering.table.items))
          (map tree (take l.item-index l.items));
      numbered : (uses : List ℕ)
          → AreNumbered uses l.fn.numbering.table.items l.fn.numbering.order.items
          → AreNumbered (uses ++ flat_map leaves (flat_map (g.H.HoldsBoundaries.held l.kind) (map tree (take l.item-index l.items))))
          l.numbering.table.items l.numbering.order.items;
    }

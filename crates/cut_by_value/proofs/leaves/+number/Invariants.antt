use Rattle.std.proofs.Common.{◌≡◌, ◌++◌, ◌↔◌, ℕ, List, length, drop}
use Rattle.city_json.specs.Tree.{items_tree}
use Rattle.city_families.specs.Leaves.{AreNested, item_leaves}
use Rattle.city_families.specs.Numbered.{AreNumbered}
use Rattle.cut_by_value.proofs.leaves.+number.Given as goal

abbrev pub invariant-number_items-loop-item : goal.invariant-number_items-loop-item
invariant-number_items-loop-item l =
    record {
      long : length l.numbering.table.items ≡ length l.fn.numbering.table.items;
      parts : AreNested (length l.fn.numbering.table.items) (items_tree (drop l.item-index l.items)) ↔ AreNested
          (length l.fn.numbering.table.items) (items_tree l.items);
      numbered : (uses : List ℕ)
          → AreNumbered uses l.fn.numbering.table.items l.fn.numbering.order.items
          → (done : List ℕ) × (done ++ item_leaves (items_tree (drop l.item-index l.items)) ≡ uses
          ++ item_leaves (items_tree l.items)) × AreNumbered done l.numbering.table.items l.numbering.order.items;
    }

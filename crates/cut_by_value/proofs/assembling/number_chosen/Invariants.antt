use Rattle.std.proofs.Common.{◌≡◌, ◌++◌, ℕ, List, length, take}
use Rattle.std.specs.List.{AllByRecursion}
use Rattle.city_families.specs.Boundaries.{IsBounded, uses}
use Rattle.city_families.specs.Chosen.{chosen_objects}
use Rattle.city_families.specs.Numbered.{AreNumbered}
use Rattle.cut_by_value.proofs.assembling.number_chosen.Given as goal

abbrev pub invariant-loop-member : goal.invariant-loop-member
invariant-loop-member l =
    record {
      long : length l.numbering.table.items ≡ length l.fn.numbering.table.items;
      bounded : AllByRecursion (λ named. IsBounded (length l.fn.numbering.table.items) named.1)
          (chosen_objects (take l.member-index l.chosen));
      numbered : (done : List ℕ)
          → AreNumbered done l.fn.numbering.table.items l.fn.numbering.order.items
          → AreNumbered (done ++ uses (chosen_objects (take l.member-index l.chosen))) l.numbering.table.items
          l.numbering.order.items;
    }

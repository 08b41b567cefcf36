use Rattle.std.proofs.Common.{List, ℕ, map, take}
use Rattle.city_json.specs.Tree.{tree}
use Rattle.city_families.specs.Places.{ArePlaced}
use Rattle.city_families.specs.Table.{IsTable}
use Rattle.cut_by_value.proofs.objects.places_of.Given as goal

abbrev pub invariant-loop-value : goal.invariant-loop-value
invariant-loop-value l = (names : List (List ℕ)) → IsTable names l.table
    → ArePlaced names (map tree (take l.value-index l.named)) l.places.items

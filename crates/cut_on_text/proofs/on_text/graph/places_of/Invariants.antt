use Rattle.std.proofs.Common.{ℕ, List, take}
use Rattle.city_families.specs.Places.{ArePlaced}
use Rattle.city_families.specs.Table.{IsTable}
use Rattle.cut_on_text.proofs.TextGraphs.{named_by}
use Rattle.cut_on_text.proofs.on_text.graph.places_of.Given as goal

abbrev pub invariant-loop-name : goal.invariant-loop-name
invariant-loop-name l = (all : List (List ℕ)) → IsTable all l.table
    → ArePlaced all (named_by (take l.name-index l.named)) l.places.items

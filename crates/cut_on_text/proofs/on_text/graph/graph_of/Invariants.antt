use Rattle.std.proofs.Common.{ℕ, List, IsUtf8, map, take}
use Rattle.std.specs.List.{AllByRecursion}
use Rattle.city_json.specs.Compact.{quoted}
use Rattle.cut_on_text.specs.Graphs.{HaveRows}
use Rattle.city_families.specs.Table.{IsTable}
use Rattle.cut_on_text.proofs.on_text.graph.graph_of.Given as goal

abbrev pub invariant-loop-text : goal.invariant-loop-text
invariant-loop-text l = (all : List (List ℕ)) → AllByRecursion IsUtf8 all → IsTable (map quoted all) l.table
    → HaveRows all (take l.text-index l.children) l.graph

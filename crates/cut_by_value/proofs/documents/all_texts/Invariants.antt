use Rattle.std.proofs.Common.{◌↔◌, drop}
use Rattle.city_json.specs.Tree.{items_tree}
use Rattle.city_families.specs.CityObjects.{AllTexts}
use Rattle.cut_by_value.proofs.documents.all_texts.Given as goal

abbrev pub invariant-loop-item : goal.invariant-loop-item
invariant-loop-item l = AllTexts (items_tree (drop l.item-index l.items)) ↔ AllTexts (items_tree l.items)

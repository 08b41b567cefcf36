use Rattle.std.proofs.Common.{◌↔◌, drop}
use Rattle.city_json.specs.Tree.{members_tree}
use Rattle.city_families.specs.CityObjects.{AreCityObjects}
use Rattle.cut_by_value.proofs.documents.are_city_objects.Given as goal

abbrev pub invariant-loop-member : goal.invariant-loop-member
invariant-loop-member l = AreCityObjects (members_tree (drop l.member-index l.objects)) ↔ AreCityObjects
    (members_tree l.objects)

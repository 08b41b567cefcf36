use Rattle.std.proofs.Common.{◌≡◌, ℕ, List, map, take}
use Rattle.city_json.specs.Tree.{Tree, named_tree}
use Rattle.city_families.specs.CityObjects.{has_parents}
use Rattle.cut_by_value.proofs.objects.parents.Given as goal

abbrev pub invariant-loop-member : goal.invariant-loop-member
invariant-loop-member l = l.parents.items
    ≡ map (λ (pair : List ℕ × Tree). has_parents pair.1) (map named_tree (take l.member-index l.objects))

use Rattle.std.proofs.Common.{◌≡◌, map, take}
use Rattle.city_families.specs.Chosen.{chosen_objects, named_tree_at}
use Rattle.cut_by_value.proofs.features.objects_at.Given as goal

abbrev pub invariant-loop-place : goal.invariant-loop-place
invariant-loop-place l = chosen_objects l.chosen.items ≡ map (named_tree_at l.objects) (take l.place-index l.places)

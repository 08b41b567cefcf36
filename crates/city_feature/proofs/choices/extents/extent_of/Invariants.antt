use Rattle.std.proofs.Common.{◌∷◌, take}
use Rattle.city_feature.specs.Extent.{IsExtent}
use Rattle.city_feature.proofs.choices.extents.extent_of.Given as goal

abbrev pub invariant-loop-vertex : goal.invariant-loop-vertex
invariant-loop-vertex l = IsExtent (l.fn.first ∷ take l.vertex-index l.others) l.extent

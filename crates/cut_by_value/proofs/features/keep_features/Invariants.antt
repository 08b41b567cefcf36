use Rattle.std.proofs.Common.{◌≡◌, List, length, map, take}
use Rattle.std.specs.List.{AllZip}
use Rattle.std.specs.Prelude.{option_copied, option_map}
use Rattle.city_json.specs.Tree.{items_tree, members_tree, member_trees, named_tree, tree}
use Rattle.city_grid.specs.Axes.{Triple}
use Rattle.city_feature.specs.Feature.{AreVertices, FeatureValue}
use Rattle.city_families.specs.CityObjects.{roots}
use Rattle.city_families.specs.Cut.{IsFeatureOf}
use Rattle.city_families.specs.Families.{IsMarkedSoFar}
use Rattle.city_families.proofs.FeatureList.{BoundedFrom}
use Rattle.cut_by_value.proofs.features.keep_features.Given as goal

abbrev pub invariant-loop-at : goal.invariant-loop-at
invariant-loop-at g l =
    record {
      long : length l.numbering.table.items ≡ length l.vertices;
      marked : IsMarkedSoFar (length l.kin.children) l.at l.marks.items;
      made : (features : List FeatureValue) × g.K.Keep.keeps l.kept features
          × ((points : List Triple) → AreVertices (items_tree l.vertices) points
          → AllZip (IsFeatureOf (members_tree l.objects) (option_map tree (option_copied l.appearance)) points)
          (roots (member_trees (take l.at (map named_tree l.objects)))) features);
      bounded : BoundedFrom (length l.vertices) (members_tree l.objects)
          (roots (member_trees (take l.at (map named_tree l.objects))));
    }

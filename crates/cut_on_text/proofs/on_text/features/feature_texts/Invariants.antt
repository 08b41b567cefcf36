use Rattle.std.proofs.Common.{◌≡◌, ◌++◌, ◌+◌, map, ℕ, List, Option, length, take}
use Rattle.std.specs.List.{AllZip}
use Rattle.city_json.specs.OpenNames.{AreEnds}
use Rattle.city_json.specs.Tree.{Tree, member_trees}
use Rattle.city_feature.specs.Feature.{FeatureValue}
use Rattle.city_families.specs.CityObjects.{roots}
use Rattle.city_families.specs.Cut.{IsFeatureOf}
use Rattle.city_families.specs.Families.{AreRelated, IsMarkedSoFar}
use Rattle.cut_on_text.specs.FeatureText.{tail_text}
use Rattle.city_families.specs.HeldTexts.{pieces}
use Rattle.city_families.specs.Lines.{texts_of}
use Rattle.cut_on_text.specs.PlacedObjects.{AreObjects}
use Rattle.cut_on_text.specs.VertexTexts.{StandAt}
use Rattle.city_grid.specs.Axes.{Triple}
use Rattle.city_families.proofs.FeatureList.{BoundedFrom}
use Rattle.cut_on_text.proofs.on_text.features.feature_texts.Given as goal

abbrev pub invariant-loop-at : goal.invariant-loop-at
invariant-loop-at l = record {
  long : length l.copier.labels.table.items + 1 ≡ length l.vertices.starts.items;
  ends : AreEnds 0 l.ends.items (length l.copier.draft.line);
  marked : IsMarkedSoFar (length l.kin.children) l.at l.marks.items;
  made : (pairs : List (List ℕ × Tree)) (appearance : Option Tree) (points : List Triple)
      → StandAt l.vertices.text.now l.vertices.starts.items points
      → AreObjects l.objects pairs
      → AreRelated pairs l.kin.children l.kin.parents.items
      → (features : List FeatureValue)
      × (map (λ own. own ++ tail_text appearance) (pieces l.copier.draft.line 0 l.ends.items) ≡ texts_of features)
      × AllZip (IsFeatureOf (member_trees pairs) appearance points) (roots (member_trees (take l.at pairs)))
      features
      × BoundedFrom (length points) (member_trees pairs) (roots (member_trees (take l.at pairs)));
}

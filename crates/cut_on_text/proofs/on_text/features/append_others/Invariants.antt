use Rattle.std.proofs.Common.{◌≡◌, ℕ, List, length, map, take}
use Rattle.city_json.specs.Tree.{Tree}
use Rattle.city_families.specs.Chosen.{named_at}
use Rattle.cut_on_text.specs.PlacedObjects.{AreObjects}
use Rattle.cut_on_text.proofs.TextFeatures.{OthersMade}
use Rattle.cut_on_text.proofs.on_text.features.append_others.Given as goal

abbrev pub invariant-loop-at : goal.invariant-loop-at
invariant-loop-at l = record {
  long : length l.copier.labels.table.items ≡ length l.fn.copier.labels.table.items;
  made : (pairs : List (List ℕ × Tree)) → AreObjects l.objects pairs
      → OthersMade (length l.fn.copier.labels.table.items) l.fn.copier.labels.table.items l.fn.copier.labels.order.items
      l.fn.copier.draft.line l.copier.labels.table.items l.copier.labels.order.items l.copier.draft.line
      (map (named_at pairs) (take l.at-index l.places));
}

use Rattle.std.proofs.Common.{◌≡◌, ℕ, List, length}
use Rattle.city_json.specs.Tree.{Tree}
use Rattle.cut_on_text.specs.PlacedObjects.{AreObjects}
use Rattle.cut_on_text.proofs.Sketched.{AreLaid}
use Rattle.cut_on_text.proofs.on_text.skeletons.skeletons_of.Given as goal

abbrev pub invariant-loop-at : goal.invariant-loop-at
invariant-loop-at l = record {
  count : l.copier.labels.count ≡ l.count;
  many : length l.places.items ≡ l.at;
  laid : (pairs : List (List ℕ × Tree)) → AreObjects l.objects pairs
      → AreLaid l.count l.copier.draft.line l.copier.labels.leaves.items l.places.items pairs;
}

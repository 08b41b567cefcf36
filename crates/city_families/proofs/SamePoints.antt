-- What the table of numbers gives: the feature's objects are those of the document with vertices of their own.
use Rattle.std.proofs.Common.{◌≡◌, ◌<◌, ℕ, List, length, map, sym, ap, subst, ◌∙◌}
use Rattle.std.specs.List.{slice_index, slice_get}
use Rattle.city_json.specs.Tree.{Tree}
use Rattle.city_grid.specs.Axes.{Triple}
use Rattle.city_families.specs.Boundaries.{uses, relabelled_objects}
use Rattle.city_families.specs.Leaves.{renumbered}
use Rattle.city_families.specs.Numbered.{AreNumbered}
use Rattle.city_families.specs.Points.{CountsUp, SamePoints}

pub same_points : (points : List Triple) (objects : List (List ℕ × Tree)) (own : List Triple)
    (own_objects : List (List ℕ × Tree)) (table order : List ℕ)
    → AreNumbered (uses objects) table order
    → own_objects ≡ relabelled_objects (renumbered (λ k. slice_index table k)) objects
    → length own ≡ length order
    → ((i : ℕ) → i < length order → slice_get own i ≡ slice_get points (slice_index order i))
    → SamePoints points objects own own_objects
same_points points objects own own_objects table order all but long each = record {
  label = λ k. slice_index table k;
  but_leaves = but;
  same = λ k c. let has = all.known k c in each (slice_index table k) has.0 ∙ ap (slice_get points) has.1;
  apart = λ j k c d e. sym (all.known j c).1 ∙ (ap (slice_index order) e ∙ (all.known k d).1);
  in_order = subst (λ n. CountsUp 0 (map (λ k. slice_index table k) (uses objects)) n) (sym long) all.in_order;
}

-- A feature put together is the one that its family begins.
use Rattle.std.proofs.Common.{◌≡◌, ◌<◌, ℕ, zero, suc, List, [], ◌∷◌, length, map, sym, refl, ap, subst, ◌∙◌, arith}
use Rattle.std.proofs.Math.ListN.{get_or-map}
use Rattle.std.proofs.lemmas.List.{get_or_default, length-map}
use Rattle.std.proofs.lemmas.List.Elements.{All-from_recursion}
use Rattle.std.specs.List.{All, AllByRecursion, Contains}
use Rattle.city_json.specs.Fits.{AreDistinctMembers, IsDistinct}
use Rattle.city_json.specs.Members.{names}
use Rattle.city_json.specs.Tree.{Tree, null, object, member_trees}
use Rattle.city_families.specs.Chosen.{named_at}
use Rattle.city_families.specs.CityObjects.{IsReached}
use Rattle.city_families.specs.Cut.{AreThose}
use Rattle.city_families.specs.Places.{IsFamily, name_at}
use Rattle.city_families.proofs.Choosing.{rises_from, those}
use Rattle.city_families.proofs.Kinship.{names_pairs}

-- ---- the objects of a family
pub object_name : (objects : List (List ℕ × Tree)) (k : ℕ) → k < length objects
    → (named_at objects k).0 ≡ name_at (member_trees objects) k
object_name objects k below = go objects k below
  where
    go : (objects : List (List ℕ × Tree)) (k : ℕ) → k < length objects
        → (named_at objects k).0 ≡ name_at (member_trees objects) k
    go [] k below = absurd (omega (arith, below))
    go (m ∷ ms) zero below = refl
    go (m ∷ ms) (suc k) below = go ms k (omega (arith, below))

distinct_at : (objects : List (List ℕ × Tree)) (k : ℕ) → AreDistinctMembers (member_trees objects) → k < length objects
    → IsDistinct (named_at objects k).1
distinct_at [] k all below = absurd (omega (arith, below))
distinct_at (m ∷ ms) zero all below = all.0
distinct_at (m ∷ ms) (suc k) all below = distinct_at ms k all.1 (omega (arith, below))

pub all_map : {A : Type 0} (P : A → Type 0) (f : ℕ → A) (places : List ℕ) → ((k : ℕ) → Contains places k → P (f k))
    → AllByRecursion P (map f places)
all_map P f [] all = tt
all_map P f (p ∷ ps) all = (
  all p (0, omega arith, refl),
  all_map P f ps (λ k c. all k (suc c.0, omega (arith, c.1), c.2)),
)

pub from_map : {A : Type 0} (P : A → Type 0) (f : ℕ → A) (places : List ℕ) (k : ℕ) → AllByRecursion P (map f places)
    → Contains places k → P (f k)
from_map P f places k all c =
    subst P (get_or-map f places c.0 k ∙ ap f c.2)
    (All-from_recursion P (map f places) all c.0 (f k) (omega (arith, c.1, length-map places f)))

within_places : (n : ℕ) (places : List ℕ) (k : ℕ) → All (λ k. k < n) places → Contains places k → k < n
within_places n places k all c = subst (λ j. j < n) c.2 (all c.0 k c.1)

pub places_inside : (objects : List (List ℕ × Tree)) (root : ℕ) (places : List ℕ)
    → IsFamily (member_trees objects) root places → All (λ k. k < length objects) places
places_inside objects root places family = λ i d below. let inside = family.inside i d below in
    omega (arith, inside, names_pairs objects)

pub place_inside : (objects : List (List ℕ × Tree)) (root : ℕ) (places : List ℕ) (k : ℕ)
    → IsFamily (member_trees objects) root places → Contains places k → k < length objects
place_inside objects root places k family c = let inside =
    within_places (length (names (member_trees objects))) places k family.inside c in
    omega (arith, inside, names_pairs objects)

pub chosen_distinct : (objects : List (List ℕ × Tree)) (root : ℕ) (places : List ℕ)
    → IsDistinct (object (member_trees objects)) → IsFamily (member_trees objects) root places
    → AllByRecursion (λ named. IsDistinct named.1) (map (named_at objects) places)
chosen_distinct objects root places distinct family =
    all_map (λ named. IsDistinct named.1) (named_at objects) places
    (λ k c. distinct_at objects k distinct.1 (place_inside objects root places k family c))

pub chosen_are_those : (objects : List (List ℕ × Tree)) (root : ℕ) (places : List ℕ)
    → IsFamily (member_trees objects) root places
    → AreThose (IsReached (member_trees objects) (name_at (member_trees objects) root)) (member_trees objects)
    (map (named_at objects) places)
chosen_are_those objects root places family =
    those (IsReached (member_trees objects) (name_at (member_trees objects) root)) (objects) 0 places (named_at objects)
    (λ k d below. ap (named_at objects) (omega arith) ∙ get_or_default (objects) k ([], null) d below)
    (rises_from 0 places family.rises (λ some. omega arith))
    (λ k c. let inside = place_inside objects root places k family c in omega (arith, inside, long))
    (λ k low high c. subst (IsReached (member_trees objects) (name_at (member_trees objects) root))
    (sym (object_name objects k (omega (arith, high, long))))
    ((family.reached k (omega (arith, high, long, names_pairs objects))).0 c))
    (λ k low high far. (family.reached k (omega (arith, high, long, names_pairs objects))).1
    (subst (IsReached (member_trees objects) (name_at (member_trees objects) root))
    (object_name objects k (omega (arith, high, long))) far))
  where
    long : length (objects) ≡ length objects
    long = refl

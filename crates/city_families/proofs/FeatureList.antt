-- The features, object by object.
use Rattle.std.proofs.Common.{◌≡◌, ◌<◌, ◌≤◌, ◌+◌, ◌++◌, inl, inr, ℕ, zero, suc, Bool, true, false, List, [], ◌∷◌, Option, Some, None, length, get_or, take, take_all, sym, refl, subst, arith, bytes_eq}
use Rattle.std.proofs.lemmas.Option.{same_Some}
use Rattle.std.proofs.lemmas.List.Elements.{Contains-push_cases}
use Rattle.std.proofs.lemmas.Slice.Eq.{bytes_eq-Decides}
use Rattle.std.specs.List.{AllByRecursion, AllZip, Contains}
use Rattle.city_json.specs.Members.{first_named, names}
use Rattle.city_json.specs.Tree.{Tree, MemberTrees, no_members, member, member_trees}
use Rattle.city_grid.specs.Axes.{Triple}
use Rattle.city_feature.specs.Feature.{FeatureValue}
use Rattle.city_families.specs.Boundaries.{IsBounded}
use Rattle.city_families.specs.Chosen.{named_at}
use Rattle.city_families.specs.CityObjects.{AllBelong, IsReached, roots}
use Rattle.city_families.specs.Cut.{IsFeatureOf}
use Rattle.city_families.specs.Families.{IsBegun}
use Rattle.city_families.specs.Items.{values}
use Rattle.city_families.specs.Places.{IsFamily, name_at}
use Rattle.city_families.specs.declared.families.Family.{Family}
use Rattle.city_families.proofs.Kinship.{names_pairs}
use Rattle.city_families.proofs.Seeking.{root_more, root_same, zip_push}

pub zip_long : {A B : Type 0} (R : A → B → Type 0) (xs : List A) (ys : List B) → AllZip R xs ys → length xs ≡ length ys
zip_long R [] [] all = refl
zip_long R [] (y ∷ ys) all = absurd all
zip_long R (x ∷ xs) [] all = absurd all
zip_long R (x ∷ xs) (y ∷ ys) all = let e = zip_long R xs ys all.1 in omega (arith, e)

pub zip_at : {A B : Type 0} (R : A → B → Type 0) (xs : List A) (ys : List B) (i : ℕ) (d : A) (e : B) → AllZip R xs ys
    → i < length ys → R (get_or xs i d) (get_or ys i e)
zip_at R [] [] i d e all within = absurd (omega (arith, within))
zip_at R [] (y ∷ ys) i d e all within = absurd all
zip_at R (x ∷ xs) [] i d e all within = absurd all
zip_at R (x ∷ xs) (y ∷ ys) zero d e all within = all.0
zip_at R (x ∷ xs) (y ∷ ys) (suc i) d e all within = zip_at R xs ys i d e all.1 (omega (arith, within))

-- ---- the features of the objects before a place
pub features_on : (pairs : List (List ℕ × Tree)) (appearance : Option Tree) (points : List Triple) (at : ℕ)
    (features : List FeatureValue) → IsBegun pairs at None → at < length pairs
    → AllZip (IsFeatureOf (member_trees pairs) appearance points) (roots (member_trees (take at pairs))) features
    → AllZip (IsFeatureOf (member_trees pairs) appearance points) (roots (member_trees (take (at + 1) pairs))) features
features_on pairs appearance points at features none within all =
    subst (λ ids. AllZip (IsFeatureOf (member_trees pairs) appearance points) ids features)
    (sym (root_same pairs at within none)) all

pub features_more : (pairs : List (List ℕ × Tree)) (appearance : Option Tree) (points : List Triple) (at : ℕ)
    (family : Family) (features : List FeatureValue) (feature : FeatureValue) → IsBegun pairs at (Some family)
    → at < length pairs
    → AllZip (IsFeatureOf (member_trees pairs) appearance points) (roots (member_trees (take at pairs))) features
    → IsFeatureOf (member_trees pairs) appearance points (name_at (member_trees pairs) family.root) feature
    → AllZip (IsFeatureOf (member_trees pairs) appearance points) (roots (member_trees (take (at + 1) pairs)))
    (features ++ feature ∷ [])
features_more pairs appearance points at family features feature begun within all one =
    subst (λ ids. AllZip (IsFeatureOf (member_trees pairs) appearance points) ids (features ++ feature ∷ []))
    (sym (root_more pairs at within begun.0))
    (zip_push (IsFeatureOf (member_trees pairs) appearance points) (roots (member_trees (take at pairs))) features
    (name_at (member_trees pairs) at) feature all
    (subst (λ k. IsFeatureOf (member_trees pairs) appearance points (name_at (member_trees pairs) k) feature) begun.1
    one))

pub features_all : (pairs : List (List ℕ × Tree)) (appearance : Option Tree) (points : List Triple) (at : ℕ)
    (features : List FeatureValue) → length pairs ≤ at
    → AllZip (IsFeatureOf (member_trees pairs) appearance points) (roots (member_trees (take at pairs))) features
    → AllZip (IsFeatureOf (member_trees pairs) appearance points) (roots (member_trees pairs)) features
features_all pairs appearance points at features past all =
    subst (λ l. AllZip (IsFeatureOf (member_trees pairs) appearance points) (roots (member_trees l)) features)
    (take_all at pairs past) all

-- the family as of its own root
pub family_begun : (pairs : List (List ℕ × Tree)) (at : ℕ) (family : Family) → IsBegun pairs at (Some family)
    → IsFamily (member_trees pairs) family.root family.places.items
family_begun pairs at family begun =
    subst (λ k. IsFamily (member_trees pairs) k family.places.items) (sym begun.1) begun.2

-- ---- the boundaries of what is reached from objects of these names
abbrev pub BoundedFrom : ℕ → MemberTrees → List (List ℕ) → Type 0
BoundedFrom count objects ids = (id name : List ℕ) (value : Tree) → Contains ids id → IsReached objects id name
    → first_named name objects ≡ Some value → IsBounded count value

pub bounded_none : (count : ℕ) (objects : MemberTrees) → BoundedFrom count objects []
bounded_none count objects = λ id name value c far is. absurd (omega (arith, c.1))

pub bounded_on : (count : ℕ) (pairs : List (List ℕ × Tree)) (at : ℕ) → IsBegun pairs at None → at < length pairs
    → BoundedFrom count (member_trees pairs) (roots (member_trees (take at pairs)))
    → BoundedFrom count (member_trees pairs) (roots (member_trees (take (at + 1) pairs)))
bounded_on count pairs at none within all =
    subst (BoundedFrom count (member_trees pairs)) (sym (root_same pairs at within none)) all

-- where the object of a name stands
pub first_place : (objects : List (List ℕ × Tree)) (name : List ℕ) (value : Tree)
    → first_named name (member_trees objects) ≡ Some value → (k : ℕ) × (k < length objects)
    × (name_at (member_trees objects) k ≡ name) × ((named_at objects k).1 ≡ value)
first_place [] name value is = cc
first_place (m ∷ ms) name value is = by (bytes_eq m.0 name) refl (λ later. first_place ms name value later)
  where
    by : (b : Bool) → bytes_eq m.0 name ≡ b → (first_named name (member_trees ms) ≡ Some value → (k : ℕ)
        × (k < length ms) × (name_at (member_trees ms) k ≡ name) × ((named_at ms k).1 ≡ value)) → (k : ℕ)
        × (k < length (m ∷ ms)) × (name_at (member_trees (m ∷ ms)) k ≡ name) × ((named_at (m ∷ ms) k).1 ≡ value)
    by true e later = (0, omega arith, (bytes_eq-Decides m.0 name).0 e, same_Some _ _ (rw e at is))
    by false e later = let there = later (rw e at is) in (suc there.0, omega (arith, there.1), there.2, there.3)

pub bounded_more : (count : ℕ) (pairs : List (List ℕ × Tree)) (at : ℕ) (family : Family)
    → IsBegun pairs at (Some family) → at < length pairs
    → BoundedFrom count (member_trees pairs) (roots (member_trees (take at pairs)))
    → ((k : ℕ) → Contains family.places.items k → IsBounded count (named_at pairs k).1)
    → BoundedFrom count (member_trees pairs) (roots (member_trees (take (at + 1) pairs)))
bounded_more count pairs at family begun within all one =
    subst (BoundedFrom count (member_trees pairs)) (sym (root_more pairs at within begun.0))
    (λ id name value c far is.
    elim (Contains-push_cases (roots (member_trees (take at pairs))) (name_at (member_trees pairs) at) id c) [
      | inl before ↦ all id name value before far is
      | inr own ↦ of_family name value
          (subst (λ i. IsReached (member_trees pairs) i name) (sym own) far) is
    ])
  where
    of_family : (name : List ℕ) (value : Tree) → IsReached (member_trees pairs) (name_at (member_trees pairs) at) name
        → first_named name (member_trees pairs) ≡ Some value → IsBounded count value
    of_family name value far is =
        let there = first_place pairs name value is in
        let reached : IsReached (member_trees pairs) (name_at (member_trees pairs) at)
        (name_at (member_trees pairs) there.0) =
        subst (λ n. IsReached (member_trees pairs) (name_at (member_trees pairs) at) n) (sym there.2) far in
        subst (IsBounded count) there.3 (one there.0
        ((begun.2.reached there.0 (omega (arith, there.1, names_pairs pairs))).1 reached))

pub bounded_all : (count : ℕ) (pairs : List (List ℕ × Tree)) (at : ℕ) → length pairs ≤ at
    → BoundedFrom count (member_trees pairs) (roots (member_trees (take at pairs)))
    → BoundedFrom count (member_trees pairs) (roots (member_trees pairs))
bounded_all count pairs at past all =
    subst (λ l. BoundedFrom count (member_trees pairs) (roots (member_trees l))) (take_all at pairs past) all

-- every object is bounded, where each that is reached is
pub all_bounded : (count : ℕ) (objects : MemberTrees) → AllBelong objects
    → ((id name : List ℕ) (value : Tree) → Contains (roots objects) id → IsReached objects id name
    → first_named name objects ≡ Some value → IsBounded count value)
    → ((k : ℕ) (name : List ℕ) (value : Tree) → get_or (names objects) k name ≡ name → k < length (names objects)
    → get_or (values objects) k value ≡ value → first_named name objects ≡ Some value)
    → AllByRecursion (IsBounded count) (values objects)
all_bounded count objects belong bounded named =
    each (values objects) (names objects) (long objects) (λ k name value at below is. one k name value at below is)
  where
    long : (ms : MemberTrees) → length (values ms) ≡ length (names ms)
    long no_members = refl
    long (member n v os) = let e = long os in omega (arith, e)

    one : (k : ℕ) (name : List ℕ) (value : Tree) → get_or (names objects) k name ≡ name → k < length (names objects)
        → get_or (values objects) k value ≡ value → IsBounded count value
    one k name value at below is =
        let there = belong name (k, below, at) in
        bounded there.0 name value there.1 there.2 (named k name value at below is)

    each : (vs : List Tree) (ns : List (List ℕ)) → length vs ≡ length ns
        → ((k : ℕ) (name : List ℕ) (value : Tree) → get_or ns k name ≡ name → k < length ns → get_or vs k value ≡ value
        → IsBounded count value) → AllByRecursion (IsBounded count) vs
    each [] ns same all = tt
    each (v ∷ vs) [] same all = absurd (omega (arith, same))
    each (v ∷ vs) (n ∷ ns) same all = (
      all 0 n v refl (omega arith) refl,
      each vs ns (omega (arith, same)) (λ k name value at below is.
          all (suc k) name value at (omega (arith, below)) is),
    )

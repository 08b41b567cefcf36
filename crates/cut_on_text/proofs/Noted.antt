-- Numbers that are noted once each, in a table of their places.
use Rattle.std.proofs.Common.{◌≡◌, ◌≢◌, ◌<◌, ◌≤◌, ◌+◌, ◌++◌, ◌⊎◌, ◌↔◌, inl, inr, ℕ, zero, suc, Bool, true, false, ◌==◌, List, [], ◌∷◌, length, get_or, map, flat_map, take, length-append, length-set, sym, refl, ap, subst, ◌∙◌, arith, append_assoc}
use Rattle.std.proofs.lemmas.Bool.{both_ways, cases_Bool, cases_eq, eq-eqb, eqb-true, false_from_ne_true, ne_eqb}
use Rattle.std.proofs.lemmas.List.{append-nil, get_or_append_left, get_or_default, get_or_push, get_or-set_same, get_or-set_other, map-append, take_more}
use Rattle.std.proofs.lemmas.Grind.{flat_map-append}
use Rattle.std.proofs.lemmas.List.Elements.{All-contains, Contains-append_left, Contains-get_or, Contains-push, Contains-push_cases, recursion_from_All}
use Rattle.std.proofs.lemmas.List.Sorted.{Contains-permutation, IsPermutation-sym, IsNonDecreasingBy-from_sort}
use Rattle.std.proofs.lemmas.List.Kept.{AllPairs-from_increasing}
use Rattle.std.proofs.lemmas.Map.Keys.{IsDistinct-IsPermutation, IsStrictlyIncreasing-from_distinct}
use Rattle.std.proofs.lemmas.Map.Steps.{length-le_from_distinct_below}
use Rattle.std.specs.List.{All, Contains, IsDistinct, list_any, slice_index, slice_set}
use Rattle.std.specs.List.Sorted.{IsPermutation, IsSorted, IsStrictlyIncreasing}
use Rattle.std.specs.Ordering.{nat_cmp}
use Rattle.std.specs.Prelude.{nat_eq}
use Rattle.cut_on_text.specs.Made.{first_uses, place_in}
use Rattle.cut_on_text.specs.Rosters.{IsRoster}
use Rattle.cut_on_text.proofs.Passes.{any_has, has_any}

-- ---- where numbers stand
pub place_there : (xs : List ℕ) (k : ℕ) → Contains xs k
    → (place_in xs k < length xs) × (slice_index xs (place_in xs k) ≡ k)
place_there xs k c = found xs c.0 c.1 c.2
  where
    found : (xs : List ℕ) (i : ℕ) → i < length xs → get_or xs i k ≡ k
        → (place_in xs k < length xs) × (slice_index xs (place_in xs k) ≡ k)
    found [] i inside is = absurd (omega (arith, inside))
    found (x ∷ xs) zero inside is = rw (eq-eqb x k is) (omega arith, is)
    found (x ∷ xs) (suc i) inside is = elim (cases_Bool (x == k)) [
      | inl e ↦ rw e (omega arith, eqb-true x k e)
      | inr e ↦ rw e (omega (arith, (found xs i (omega (arith, inside)) is).0), (found xs i (omega (arith, inside)) is).1)
    ]

pub place_none : (xs : List ℕ) (k : ℕ) → list_any (λ x. x == k) xs ≡ false → place_in xs k ≡ length xs
place_none [] k none = refl
place_none (x ∷ xs) k none = by (x == k) refl (λ later. place_none xs k later)
  where
    by : (b : Bool) → (x == k) ≡ b → (list_any (λ x. x == k) xs ≡ false → place_in xs k ≡ length xs)
        → place_in (x ∷ xs) k ≡ length (x ∷ xs)
    by true e later = absurd (both_ways true (rw e at none) refl)
    by false e later = rw e (omega (arith, later (rw e at none)))

module _ (table order : List ℕ) (r : IsRoster table order) where
  stands_there : (one : ℕ) → Contains order one
      → (slice_index table one < length order) × (slice_index order (slice_index table one) ≡ one)
  stands_there one c =
      let there : slice_index order c.0 ≡ one = sym (get_or_default order c.0 one 0 c.1) ∙ c.2 in
      let is : slice_index table one ≡ c.0 = ap (slice_index table) (sym there) ∙ r.stands c.0 c.1 in
      (omega (arith, is, c.1), ap (slice_index order) is ∙ there)

  pub has_below : (one : ℕ) → slice_index table one < length order
      → nat_eq (slice_index order (slice_index table one)) one ≡ list_any (λ x. x == one) order
  has_below one below = elim (cases_Bool (nat_eq (slice_index order (slice_index table one)) one)) [
    | inl e ↦ let same : slice_index order (slice_index table one) ≡ one = eqb-true _ _ e in
        e ∙ sym (any_has order one (subst (Contains order) same
        (Contains-get_or order (slice_index table one) 0 below)))
    | inr e ↦ e ∙ sym (false_from_ne_true (list_any (λ x. x == one) order)
        (λ found. both_ways _ e (eq-eqb _ one (stands_there one (has_any order one found)).1)))
  ]

  pub has_past : (one : ℕ) → length order ≤ slice_index table one → list_any (λ x. x == one) order ≡ false
  has_past one past = false_from_ne_true (list_any (λ x. x == one) order)
      (λ found. omega (arith, (stands_there one (has_any order one found)).0, past))

  pub number_is : (one : ℕ) → list_any (λ x. x == one) order ≡ true → slice_index table one ≡ place_in order one
  number_is one found =
      let there = place_there order one (has_any order one found) in
      ap (slice_index table) (sym there.1) ∙ r.stands (place_in order one) there.0

  -- ---- none is there twice
  pub differ : (i j : ℕ) → i < length order → j < length order → slice_index order i ≡ slice_index order j → i ≡ j
  differ i j inside inside' same = sym (r.stands i inside) ∙ (ap (slice_index table) same ∙ r.stands j inside')

  pub within : All (λ one. one < length table) order
  within = λ i d inside. subst (λ n. n < length table) (sym (get_or_default order i d 0 inside)) (r.inside i inside)

apart : (xs : List ℕ)
    → ((i j : ℕ) → i < length xs → j < length xs → slice_index xs i ≡ slice_index xs j → i ≡ j) → IsDistinct nat_eq xs
unfolding IsDistinct
apart [] once = tt
apart (x ∷ xs) once = (
  recursion_from_All (λ y. nat_eq x y ≡ false) xs (λ k d inside. ne_eqb x (get_or xs k d)
      (λ same. omega (
        arith,
        once 0 (suc k) (omega arith) (omega (arith, inside))
            (same ∙ get_or_default xs k d 0 inside),
      ))),
  apart xs (λ i j inside inside' same.
      let e = once (suc i) (suc j) (omega (arith, inside)) (omega (arith, inside')) same in omega (arith, e)),
)

pub distinct : (table order : List ℕ) → IsRoster table order → IsDistinct nat_eq order
distinct table order r = apart order (differ table order r)

flipped : (q x : ℕ) → nat_eq q x ≡ true → nat_eq x q ≡ true
flipped q x e = eq-eqb x q (sym (eqb-true q x e))

any_flipped : (q : ℕ) (xs : List ℕ) → list_any (nat_eq q) xs ≡ true → list_any (λ x. x == q) xs ≡ true
any_flipped q [] found = cc
any_flipped q (x ∷ xs) found = by (nat_eq q x) refl (λ later. any_flipped q xs later)
  where
    by : (b : Bool) → nat_eq q x ≡ b → (list_any (nat_eq q) xs ≡ true → list_any (λ x. x == q) xs ≡ true)
        → list_any (λ x. x == q) (x ∷ xs) ≡ true
    by true e later = rw (flipped q x e) refl
    by false e later = rw (ne_eqb x q (λ same. both_ways _ e (eq-eqb q x (sym same)))) (later (rw e at found))

pub few : (table order : List ℕ) → IsRoster table order → length order ≤ length table
few table order r = length-le_from_distinct_below order (length table) (distinct table order r)
    (λ q found. All-contains (λ one. one < length table) order q (within table order r)
    (has_any order q (any_flipped q order found)))

-- ---- one more
module _ (table order : List ℕ) (one : ℕ) (r : IsRoster table order) (inside : one < length table)
    (new : list_any (λ x. x == one) order ≡ false) where
  other : (i : ℕ) → i < length order → slice_index order i ≢ one
  other i below same = both_ways _ new
      (any_has order one (subst (Contains order) same (Contains-get_or order i 0 below)))

  pub roster_more : IsRoster (slice_set table one (length order)) (order ++ one ∷ [])
  roster_more = record {
    inside = λ i below. by_inside i below (cases_eq i (length order));
    stands = λ i below. by_stands i below (cases_eq i (length order));
  }
    where
      last : (i : ℕ) → i ≡ length order → slice_index (order ++ one ∷ []) i ≡ one
      last i same = get_or_push order one 0 i (sym same)

      before : (i : ℕ) → i < length (order ++ one ∷ []) → (i ≡ length order → ⊥) → i < length order
      before i below apart = omega (arith, below, apart, length-append order (one ∷ []))

      by_inside : (i : ℕ) → i < length (order ++ one ∷ []) → (i ≡ length order) ⊎ (i ≡ length order → ⊥)
          → slice_index (order ++ one ∷ []) i < length (slice_set table one (length order))
      by_inside i below (inl same) = omega (arith, last i same, inside, length-set table one (length order))
      by_inside i below (inr apart) =
          let less = before i below apart in
          omega (
            arith,
            get_or_append_left order (one ∷ []) 0 i less,
            r.inside i less,
            length-set table one (length order),
          )

      by_stands : (i : ℕ) → i < length (order ++ one ∷ []) → (i ≡ length order) ⊎ (i ≡ length order → ⊥)
          → slice_index (slice_set table one (length order)) (slice_index (order ++ one ∷ []) i) ≡ i
      by_stands i below (inl same) = ap (slice_index (slice_set table one (length order))) (last i same)
          ∙ (get_or-set_same table one (length order) 0 inside ∙ sym same)
      by_stands i below (inr apart) =
          let less = before i below apart in
          ap (slice_index (slice_set table one (length order))) (get_or_append_left order (one ∷ []) 0 i less)
          ∙ (get_or-set_other table one (slice_index order i) (length order) 0 (other i less) ∙ r.stands i less)

  pub room : length order < length table
  room = let most = few (slice_set table one (length order)) (order ++ one ∷ []) roster_more in
      omega (arith, most, length-append order (one ∷ []), length-set table one (length order))

-- ---- numbered anew, where they rise
pub anew_more : (table table' order : List ℕ) (place at : ℕ) → All (λ one. one < length table) order
    → IsStrictlyIncreasing order → place < length order
    → ((j : ℕ) → j < place → slice_index table (slice_index order j) ≡ j) → at ≡ slice_index order place
    → table' ≡ slice_set table at place
    → (j : ℕ) → j < place + 1 → slice_index table' (slice_index order j) ≡ j
anew_more table table' order place at within rises below placed at_is is j before =
    subst (λ t. slice_index t (slice_index order j) ≡ j) (sym (is ∙ ap (λ n. slice_set table n place) at_is))
    (by (cases_eq j place))
  where
    by : (j ≡ place) ⊎ (j ≡ place → ⊥)
        → slice_index (slice_set table (slice_index order place) place) (slice_index order j) ≡ j
    by (inl same) = ap (λ i. slice_index (slice_set table (slice_index order place) place) (slice_index order i)) same
        ∙ (get_or-set_same table (slice_index order place) place 0 (within place 0 below) ∙ sym same)
    by (inr apart) =
        let less : j < place = omega (arith, before, apart) in
        let rise : slice_index order j < slice_index order place =
        AllPairs-from_increasing order rises j place 0 less below in
        get_or-set_other table (slice_index order place) (slice_index order j) place 0
        (λ same. omega (arith, rise, same)) ∙ placed j less

pub sorted_rises : (table order sorted : List ℕ) → IsRoster table order → IsPermutation order sorted
    → IsSorted nat_cmp sorted → IsStrictlyIncreasing sorted
sorted_rises table order sorted r moved up =
    IsStrictlyIncreasing-from_distinct sorted (IsNonDecreasingBy-from_sort (λ x. x) sorted up)
    (IsDistinct-IsPermutation nat_eq same order sorted moved (distinct table order r))
  where
    same : (x y : ℕ) → nat_eq x y ≡ nat_eq y x
    same x y = elim (cases_Bool (nat_eq x y)) [
      | inl e ↦ e ∙ sym (flipped x y e)
      | inr e ↦ e ∙ sym (ne_eqb y x (λ back. both_ways _ e (eq-eqb x y (sym back))))
    ]

pub sorted_same : (order sorted : List ℕ) → IsPermutation order sorted → (k : ℕ) → Contains sorted k ↔ Contains order k
sorted_same order sorted moved k = (
  λ c. Contains-permutation sorted order k (IsPermutation-sym order sorted moved) c,
  λ c. Contains-permutation order sorted k moved c,
)

-- ---- first uses
pub first_uses-append : (before xs ys : List ℕ)
    → first_uses before (xs ++ ys) ≡ first_uses (first_uses before xs) ys
first_uses-append before [] ys = refl
first_uses-append before (x ∷ xs) ys = by (list_any (λ k. k == x) before) refl (λ b. first_uses-append b xs ys)
  where
    by : (b : Bool) → list_any (λ k. k == x) before ≡ b
        → ((before' : List ℕ) → first_uses before' (xs ++ ys) ≡ first_uses (first_uses before' xs) ys)
        → first_uses before (x ∷ (xs ++ ys)) ≡ first_uses (first_uses before (x ∷ xs)) ys
    by true e later = rw e (later before)
    by false e later = rw e (later (before ++ x ∷ []))

pub first_uses-more : (before those : List ℕ) (i d : ℕ) → i < length those
    → first_uses before (take (i + 1) those) ≡ first_uses (first_uses before (take i those)) (get_or those i d ∷ [])
first_uses-more before those i d inside = ap (first_uses before) (take_more those i d inside)
    ∙ first_uses-append before (take i those) (get_or those i d ∷ [])

abbrev IsFront : List ℕ → List ℕ → Type 0
IsFront before all = (more : List ℕ) × (all ≡ before ++ more)

pub first_uses-front : (before those : List ℕ) → IsFront before (first_uses before those)
first_uses-front before [] = ([], sym (append-nil before))
first_uses-front before (x ∷ xs) = by (list_any (λ k. k == x) before) refl (λ b. first_uses-front b xs)
  where
    by : (b : Bool) → list_any (λ k. k == x) before ≡ b
        → ((before' : List ℕ) → IsFront before' (first_uses before' xs)) → IsFront before (first_uses before (x ∷ xs))
    by true e later = rw e (later before)
    by false e later = rw e (
      x ∷ (later (before ++ x ∷ [])).0,
      (later (before ++ x ∷ [])).1 ∙ append_assoc before (x ∷ []) (later (before ++ x ∷ [])).0,
    )

pub first_uses-keep : (before those : List ℕ) (k : ℕ) → Contains before k → Contains (first_uses before those) k
first_uses-keep before those k c =
    let front = first_uses-front before those in
    subst (λ all. Contains all k) (sym front.1) (Contains-append_left before front.0 k c)

pub first_uses-has : (before those : List ℕ) (i k : ℕ) → i < length those → get_or those i k ≡ k
    → Contains (first_uses before those) k
first_uses-has before [] i k inside is = absurd (omega (arith, inside))
first_uses-has before (x ∷ xs) zero k inside is = by (list_any (λ i. i == x) before) refl
  where
    by : (b : Bool) → list_any (λ i. i == x) before ≡ b → Contains (first_uses before (x ∷ xs)) k
    by true e = rw e (first_uses-keep before xs k (subst (Contains before) is (has_any before x e)))
    by false e = rw e (first_uses-keep (before ++ x ∷ []) xs k
        (subst (Contains (before ++ x ∷ [])) is (Contains-push before x)))
first_uses-has before (x ∷ xs) (suc i) k inside is = by (list_any (λ j. j == x) before) refl
    (λ b. first_uses-has b xs i k (omega (arith, inside)) is)
  where
    by : (b : Bool) → list_any (λ j. j == x) before ≡ b
        → ((before' : List ℕ) → Contains (first_uses before' xs) k) → Contains (first_uses before (x ∷ xs)) k
    by true e later = rw e (later before)
    by false e later = rw e (later (before ++ x ∷ []))

pub first_uses-only : (before those : List ℕ) (k : ℕ) → Contains (first_uses before those) k
    → Contains before k ⊎ Contains those k
first_uses-only before [] k c = inl c
first_uses-only before (x ∷ xs) k c = by (list_any (λ j. j == x) before) refl (λ b c'. first_uses-only b xs k c')
  where
    on : Contains xs k → Contains (x ∷ xs) k
    on there = (suc there.0, omega (arith, there.1), there.2)

    by : (b : Bool) → list_any (λ j. j == x) before ≡ b
        → ((before' : List ℕ) → Contains (first_uses before' xs) k → Contains before' k ⊎ Contains xs k)
        → Contains before k ⊎ Contains (x ∷ xs) k
    by true e later = elim (later before (rw e at c)) [ inl old ↦ inl old | inr new ↦ inr (on new) ]
    by false e later = elim (later (before ++ x ∷ []) (rw e at c)) [
      | inl old ↦ elim (Contains-push_cases before x k old)
          [ inl older ↦ inl older | inr same ↦ inr (0, omega arith, same) ]
      | inr new ↦ inr (on new)
    ]

pub first_uses-mapped : {X : Type 0} (f : X → ℕ) (before : List ℕ) (xs : List X) (i : ℕ) (x : X) → i < length xs
    → get_or xs i x ≡ x
    → first_uses before (map f (take (i + 1) xs)) ≡ first_uses (first_uses before (map f (take i xs))) (f x ∷ [])
first_uses-mapped f before xs i x inside is =
    ap (λ l. first_uses before (map f l)) (take_more xs i x inside ∙ ap (λ y. take i xs ++ y ∷ []) is)
    ∙ (ap (first_uses before) (map-append f (take i xs) (x ∷ []))
    ∙ first_uses-append before (map f (take i xs)) (f x ∷ []))

pub first_uses-flat : (f : ℕ → List ℕ) (before xs : List ℕ) (i d : ℕ) → i < length xs
    → first_uses before (flat_map f (take (i + 1) xs))
    ≡ first_uses (first_uses before (flat_map f (take i xs))) (f (get_or xs i d))
first_uses-flat f before xs i d inside =
    ap (λ l. first_uses before (flat_map f l)) (take_more xs i d inside)
    ∙ (ap (first_uses before) (flat_map-append f (take i xs) (get_or xs i d ∷ [])
    ∙ ap (λ l. flat_map f (take i xs) ++ l) (append-nil (f (get_or xs i d))))
    ∙ first_uses-append before (flat_map f (take i xs)) (f (get_or xs i d)))

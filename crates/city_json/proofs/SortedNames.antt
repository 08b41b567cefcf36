-- Names that are sorted are pairwise different exactly where neighbours are.
use Rattle.std.proofs.Common.{◌≡◌, ◌≢◌, ◌↔◌, ◌+◌, ◌<◌, ℕ, Bool, true, false, true≢false, List, [], ◌∷◌, length, map, get_or, sym, refl, ap, subst, ◌∙◌, arith, rules, Ordering, Less, Equal, Greater, inl, inr}
use Rattle.std.proofs.lemmas.Bool.{cases_Bool}
use Rattle.std.proofs.lemmas.Cmp.{nat_list_cmp_total, eq_by_cmp_equiv}
use Rattle.std.proofs.Math.ListN.{get_or-map}
use Rattle.std.proofs.lemmas.List.{length-map}
use Rattle.std.proofs.lemmas.List.Sorted.{IsPermutation-map, IsPermutation-sym}
use Rattle.std.proofs.lemmas.Map.Keys.{IsDistinct-from_sorted, IsDistinct-IsPermutation, apart_from_distinct, sorted_from_all_adjacent}
use Rattle.std.proofs.lemmas.Map.Text.{is_eq-slice_cmp}
use Rattle.std.proofs.lemmas.Slice.Eq.{bytes_eq-Decides}
use Rattle.std.specs.Borrow.{Bor}
use Rattle.std.specs.Bool.{IsTrue}
use Rattle.std.specs.Cmp.Lexicographic.{slice_cmp}
use Rattle.std.specs.List.{AllByRecursion, AllAdjacentBelow, IsAllAdjacentAnswer, IsDistinct}
use Rattle.std.specs.List.Sorted.{IsPermutation, IsSorted, IsStrictlySortedBy}
use Rattle.std.specs.Ordering.{eq_by_cmp, is_eq, is_lt, nat_cmp, ordering_reverse}
use Rattle.city_json.specs.Fits.{IsNewName, HasDistinctNames}
use Rattle.city_json.specs.Members.{names}
use Rattle.city_json.specs.Tree.{MemberTrees, no_members, member}

abbrev by_bytes : List ℕ → List ℕ → Ordering
by_bytes = slice_cmp nat_cmp

abbrev name_order : Bor (List ℕ) → Bor (List ℕ) → Ordering
name_order x y = by_bytes x.now y.now

abbrev same : List ℕ → List ℕ → Bool
same = eq_by_cmp by_bytes

-- ---- the names of members are pairwise different
differ : (x y : List ℕ) → x ≢ y ↔ same x y ≡ false
differ x y = elim (cases_Bool (same x y)) [
  | inl e ↦ (
    λ apart. absurd (apart ((bytes_eq-Decides x y).0 (sym (is_eq-slice_cmp x y) ∙ e))),
    λ not. absurd (true≢false (sym e ∙ not)),
  )
  | inr e ↦ (
    λ apart. e,
    λ not equal. true≢false (sym ((is_eq-slice_cmp x y) ∙ (bytes_eq-Decides x y).1 equal)
        ∙ not),
  )
]

new_is : (name : List ℕ) (members : MemberTrees) → IsNewName name members
    ↔ AllByRecursion (λ other. same name other ≡ false) (names members)
new_is name no_members = (λ _. tt, λ _. tt)
new_is name (member other value others) = (
  λ new. ((differ name other).0 new.0, (new_is name others).0 new.1),
  λ apart. ((differ name other).1 apart.0, (new_is name others).1 apart.1),
)

distinct_is : (members : MemberTrees) → HasDistinctNames members ↔ IsDistinct same (names members)
unfolding IsDistinct
distinct_is no_members = (λ _. tt, λ _. tt)
distinct_is (member name value others) = (
  λ all. ((new_is name others).0 all.0, (distinct_is others).0 all.1),
  λ all. ((new_is name others).1 all.0, (distinct_is others).1 all.1),
)

-- ---- neighbours in the order of their bytes
rises : (x y : List ℕ) → is_lt (by_bytes y x) ≡ false → same x y ≡ false → is_lt (by_bytes x y) ≡ true
rises x y not_after apart = by (by_bytes y x) refl
  where
    flips : by_bytes x y ≡ ordering_reverse (by_bytes y x)
    flips = nat_list_cmp_total.antisymm x y

    by : (o : Ordering) → by_bytes y x ≡ o → is_lt (by_bytes x y) ≡ true
    by Less e = absurd (true≢false (sym (ap is_lt e) ∙ not_after))
    by Equal e = absurd (true≢false (sym (ap is_eq (flips ∙ ap ordering_reverse e)) ∙ apart))
    by Greater e = ap is_lt (flips ∙ ap ordering_reverse e)

less : (o : Ordering) → is_lt o ≡ true → o ≡ Less
less Less e = refl
less Equal e = absurd (true≢false (sym e))
less Greater e = absurd (true≢false (sym e))

abbrev texts : List (Bor (List ℕ)) → List (List ℕ)
texts listed = map (λ name. name.now) listed

abbrev pub precedes : Bor (List ℕ) → Bor (List ℕ) → Bool
precedes x y = is_lt (name_order x y)

-- r tells whether each name precedes the next
abbrev pub TellsRise : Bool → List (Bor (List ℕ)) → Type 0
TellsRise r listed = IsAllAdjacentAnswer (λ x y b. b ≡ precedes x y) listed r

strictly : (sorted : List (Bor (List ℕ))) → AllAdjacentBelow (λ x y. true ≡ precedes x y) sorted (length sorted)
    → IsStrictlySortedBy by_bytes (texts sorted)
unfolding IsStrictlySortedBy
strictly [] neighbours = tt
strictly (x ∷ xs) neighbours = sorted_from_all_adjacent nat_list_cmp_total (texts (x ∷ xs)) x.now (λ k within.
    rw (get_or-map (λ name. name.now) (x ∷ xs) k x, get_or-map (λ name. name.now) (x ∷ xs) (k + 1) x)
    (less _ (sym (neighbours k x (subst (λ n. k + 1 < n) (length-map (x ∷ xs) (λ name. name.now)) within)))))

falls_nowhere : (sorted : List (Bor (List ℕ))) (k : ℕ) (d : Bor (List ℕ)) → IsSorted name_order sorted
    → k + 1 < length sorted → IsDistinct same (texts sorted)
    → precedes (get_or sorted k d) (get_or sorted (k + 1) d) ≡ true
falls_nowhere sorted k d up within apart =
    rises (get_or sorted k d).now (get_or sorted (k + 1) d).now (up k d (omega arith) within) differ_there
  where
    differ_there : same (get_or sorted k d).now (get_or sorted (k + 1) d).now ≡ false
    differ_there = let there = apart_from_distinct same (texts sorted) k (k + 1) d.now apart (omega arith)
        (subst (λ n. k + 1 < n) (sym (length-map sorted (λ name. name.now))) within) in
        subst (λ b. b ≡ false) (rw (
          get_or-map (λ name. name.now) sorted k d,
          get_or-map (λ name. name.now) sorted (k + 1) d,
        ) refl) there

unlike : (sorted : List (Bor (List ℕ))) → IsSorted name_order sorted → (k : ℕ) × (k + 1 < length sorted)
    × ((d : Bor (List ℕ)) → false ≡ precedes (get_or sorted k d) (get_or sorted (k + 1) d))
    → IsDistinct same (texts sorted) → ⊥
unlike [] up found apart = omega (arith, found.1)
unlike (x ∷ xs) up found apart = true≢false (sym (falls_nowhere (x ∷ xs) found.0 x up found.1 apart) ∙ sym (found.2 x))

-- what a sort and a look at the neighbours show of the names of members
pub differ_by_neighbours : (members : MemberTrees) (listed sorted : List (Bor (List ℕ))) (r : Bool)
    → texts listed ≡ names members → IsPermutation listed sorted → IsSorted name_order sorted → TellsRise r sorted
    → IsTrue r ↔ HasDistinctNames members
differ_by_neighbours members listed sorted r are moved up answer = by r answer
  where
    flips : (x y : List ℕ) → same x y ≡ same y x
    flips = (eq_by_cmp_equiv nat_list_cmp_total).symm

    among : IsPermutation (texts listed) (texts sorted)
    among = IsPermutation-map (λ name. name.now) listed sorted moved

    back : IsDistinct same (texts sorted) → HasDistinctNames members
    back apart = (distinct_is members).1
        (subst (IsDistinct same) are (IsDistinct-IsPermutation same flips (texts sorted) (texts listed)
        (IsPermutation-sym (texts listed) (texts sorted) among) apart))

    onward : HasDistinctNames members → IsDistinct same (texts sorted)
    onward all = IsDistinct-IsPermutation same flips (texts listed) (texts sorted) among
        (subst (IsDistinct same) (sym are) ((distinct_is members).0 all))

    by : (b : Bool) → TellsRise b sorted → IsTrue b ↔ HasDistinctNames members
    by true neighbours = (
      λ _. back (IsDistinct-from_sorted by_bytes (texts sorted) (strictly sorted neighbours)),
      λ _. search rules,
    )
    by false found = (λ not. absurd (true≢false (sym not)), λ all. absurd (unlike sorted up found (onward all)))

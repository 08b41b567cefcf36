-- The names of members that differ, as the pass holds them.
use Rattle.std.proofs.Common.{◌≡◌, ◌≢◌, ◌∙◌, ◌≤◌, ◌<◌, ◌+◌, ◌-◌, ℕ, List, [], ◌∷◌, length, take, drop, map, get_or, refl, ap, sym, subst, arith, Bool, true, false}
use Rattle.std.proofs.lemmas.List.{drop_more, take_rest}
use Rattle.std.proofs.Common.{true≢false, ltb}
use Rattle.std.proofs.lemmas.Bool.{ltb-true}
use Rattle.std.proofs.lemmas.Cmp.{nat_cmp_total, eq_by_cmp_equiv}
use Rattle.std.proofs.lemmas.List.Sorted.{IsPermutation-sym}
use Rattle.std.proofs.lemmas.Map.Keys.{IsDistinct-from_sorted, IsDistinct-IsPermutation, sorted_from_strictly_increasing}
use Rattle.std.specs.Bool.{IsTrue}
use Rattle.std.specs.List.{AllByRecursion, IsAllAdjacentAnswer, IsDistinct}
use Rattle.std.specs.List.Sorted.{IsPermutation, IsStrictlySortedBy}
use Rattle.std.specs.Ordering.{eq_by_cmp, nat_cmp}
use Rattle.city_json.specs.Fits.{HasDistinctNames, IsNewName}
use Rattle.city_json.specs.Members.{names}
use Rattle.city_json.specs.Tree.{MemberTrees, no_members, member}

pub no_names : (name : List ℕ) (members : MemberTrees) → names members ≡ [] → IsNewName name members
no_names name no_members is = tt
no_names name (member n v o) is = cc

pub none_differ : (members : MemberTrees) → names members ≡ [] → HasDistinctNames members
none_differ no_members is = tt
none_differ (member n v o) is = cc

-- one name is apart from all others
pub one_differs : (members : MemberTrees) (listed : List (List ℕ)) → names members ≡ listed → length listed < 2
    → HasDistinctNames members
one_differs no_members listed is few = tt
one_differs (member n v no_members) listed is few = (tt, tt)
one_differs (member n v (member m w o)) listed is few =
    absurd (omega (arith, few, ap length is))

pub new_step : (name other : List ℕ) (rest : List (List ℕ)) → (other ≡ name → ⊥)
    → ((members : MemberTrees) → names members ≡ rest → IsNewName name members) → (members : MemberTrees)
    → names members ≡ other ∷ rest → IsNewName name members
new_step name other rest apart new no_members is = cc
new_step name other rest apart new (member n v o) is = (λ same. apart cc, new o cc)

pub differ_step : (name : List ℕ) (rest : List (List ℕ))
    → ((members : MemberTrees) → names members ≡ rest → IsNewName name members)
    → ((members : MemberTrees) → names members ≡ rest → HasDistinctNames members) → (members : MemberTrees)
    → names members ≡ name ∷ rest → HasDistinctNames members
differ_step name rest new differ no_members is = cc
differ_step name rest new differ (member n v o) is =
    let same : n ≡ name = cc in
    let others : names o ≡ rest = cc in
    (subst (λ l. IsNewName l o) (sym same) (new o others), differ o others)

-- two are, where they differ
pub two_differ : (first second : List ℕ) (members : MemberTrees) → second ≢ first
    → names members ≡ first ∷ second ∷ [] → HasDistinctNames members
two_differ first second members apart = differ_step first (second ∷ [])
    (new_step first second [] apart (no_names first))
    (differ_step second [] (no_names second) none_differ) members

two_items : {A : Type 0} (l : List A) (d : A) → 2 ≤ length l → length l < 3
    → l ≡ get_or l 0 d ∷ get_or l 1 d ∷ []
two_items [] d some few = absurd (omega (arith, some))
two_items (x ∷ []) d some few = absurd (omega (arith, some))
two_items (x ∷ y ∷ []) d some few = refl
two_items (x ∷ y ∷ z ∷ l) d some few = absurd (omega (arith, few))

-- the names of listed things are new, are different
abbrev pub AreNew : {A : Type 0} → (A → List ℕ) → List ℕ → List A → Type 0
AreNew bytes name listed = (members : MemberTrees) → names members ≡ map bytes listed → IsNewName name members

abbrev pub AreApart : {A : Type 0} → (A → List ℕ) → List A → Type 0
AreApart bytes listed = (members : MemberTrees) → names members ≡ map bytes listed → HasDistinctNames members

pub new_step_at : {A : Type 0} (bytes : A → List ℕ) (name : List ℕ) (listed : List A) (i : ℕ) (d : A) (W : Type 0)
    → i < length listed → bytes (get_or listed i d) ≢ name → (AreNew bytes name (drop i listed) → W)
    → AreNew bytes name (drop (i + 1) listed) → W
new_step_at bytes name listed i d W inside apart before new = before (λ members is.
    new_step name (bytes (get_or listed i d)) (map bytes (drop (i + 1) listed)) apart new members (is
    ∙ ap (map bytes) (drop_more listed i d inside)))

-- two listed things, where the name of the second is not that of the first
pub two_apart : {A : Type 0} (bytes : A → List ℕ) (listed : List A) (d : A) (first : List ℕ) → 2 ≤ length listed
    → length listed < 3 → first ≡ bytes (get_or listed 0 d) → bytes (get_or listed 1 d) ≢ first
    → AreApart bytes listed
two_apart bytes listed d first some few is apart members are =
    two_differ (bytes (get_or listed 0 d)) (bytes (get_or listed 1 d)) members
    (λ same. apart (same ∙ sym is))
    (are ∙ ap (map bytes) (two_items listed d some few))

pub differ_step_at : {A : Type 0} (bytes : A → List ℕ) (rest : List A) (n : ℕ) (d : A) (W : Type 0) → 1 ≤ length rest
    → n ≡ length rest - 1 → AreNew bytes (bytes (get_or rest 0 d)) (take n (drop 1 rest)) → (AreApart bytes rest → W)
    → AreApart bytes (take n (drop 1 rest)) → W
differ_step_at bytes rest n d W some count new before differ = before (λ members is.
    let others : take n (drop 1 rest) ≡ drop 1 rest = ap (λ k. take k (drop 1 rest)) count ∙ take_rest rest 1 in
    differ_step (bytes (get_or rest 0 d)) (map bytes (take n (drop 1 rest))) new differ members (is
    ∙ (ap (map bytes) (drop_more rest 0 d (omega arith))
    ∙ ap (λ l. bytes (get_or rest 0 d) ∷ map bytes l) (sym others))))

-- ---- by their prints
abbrev pub same_number : ℕ → ℕ → Bool
same_number = eq_by_cmp nat_cmp

new_by_print : (name : List ℕ) (members : MemberTrees) (print : List ℕ → ℕ)
    → AllByRecursion (λ y. same_number (print name) y ≡ false) (map print (names members)) → IsNewName name members
new_by_print name no_members print apart = tt
new_by_print name (member other value others) print apart =
    let equal : same_number (print name) (print name) ≡ true = (eq_by_cmp_equiv nat_cmp_total).refl (print name) in (
      λ same. true≢false (sym equal ∙ (ap (λ n. same_number (print name) (print n)) same ∙ apart.0)),
      new_by_print name others print apart.1,
    )

pub apart_by_prints : (members : MemberTrees) (print : List ℕ → ℕ) → IsDistinct same_number (map print (names members))
    → HasDistinctNames members
unfolding IsDistinct
apart_by_prints no_members print apart = tt
apart_by_prints (member name value others) print apart =
    (new_by_print name others print apart.0, apart_by_prints others print apart.1)

abbrev pub rises : ℕ → ℕ → Bool
rises x y = ltb x y

-- r tells whether each number is below the next
abbrev pub TellsRise : Bool → List ℕ → Type 0
TellsRise r listed = IsAllAdjacentAnswer (λ x y b. b ≡ rises x y) listed r

-- what a sort of the prints and a look at the neighbours show
pub apart_when_rising : (members : MemberTrees) (print : List ℕ → ℕ) (prints sorted : List ℕ) (r : Bool)
    → map print (names members) ≡ prints → IsPermutation prints sorted → TellsRise r sorted → IsTrue r
    → HasDistinctNames members
apart_when_rising members print prints sorted r are moved answer so = by r answer so
  where
    by : (b : Bool) → TellsRise b sorted → IsTrue b → HasDistinctNames members
    by true neighbours _ =
        let up : IsStrictlySortedBy nat_cmp sorted =
        sorted_from_strictly_increasing sorted (λ k within. ltb-true _ _ (sym (neighbours k 0 within))) in
        let apart : IsDistinct same_number prints =
        IsDistinct-IsPermutation same_number (eq_by_cmp_equiv nat_cmp_total).symm sorted prints
        (IsPermutation-sym prints sorted moved) (IsDistinct-from_sorted nat_cmp sorted up) in
        apart_by_prints members print (subst (IsDistinct same_number) (sym are) apart)
    by false found not = absurd (true≢false (sym not))

-- How marks and found things grow.
use Rattle.std.proofs.Common.{◌≡◌, Some, ◌≢◌, ◌<◌, ◌≤◌, ◌+◌, ◌++◌, ◌⊎◌, ◌↔◌, inl, inr, ℕ, Bool, true, false, ◌==◌, List, [], ◌∷◌, length, get_or, if◌then◌else◌, take, sym, refl, ap, subst, ◌∙◌, arith, append_assoc, length-append, length-set}
use Rattle.std.proofs.lemmas.Bool.{cases_Bool, eq-eqb, eqb-false, eqb-true}
use Rattle.std.proofs.lemmas.List.{append-nil, take_more, get_or_default, get_or_append_left, get_or-set_same, get_or-set_other}
use Rattle.std.proofs.lemmas.List.Elements.{Contains-append_left, Contains-append_right, Contains-push, Contains-push_cases, Contains-append_cases}
use Rattle.std.proofs.lemmas.Option.{get_or_from_slice_get, slice_get_within, same_Some}
use Rattle.std.proofs.lemmas.List.Sums.{sum_by-set}
use Rattle.std.specs.List.{Contains, All, slice_get, slice_index, slice_set}
use Rattle.city_families.specs.Reach.{Reached, itself, onward}
use Rattle.city_families.specs.Search.{After, InRange, IsMarked, IsReachedFrom, unmarked, Grows, Searches}

nothing : (k : ℕ) → Contains [] k → ⊥
nothing k c = omega (arith, c.1)

pub grows_none : (root : ℕ) (marks found : List ℕ) → Grows root [] marks marks found found
grows_none root marks found = record {
  long = refl;
  more = [];
  found_is = sym (append-nil found);
  only_new = λ k c. c;
  all_new = λ k c. absurd (nothing k c);
  kept = λ k m. m;
  only_found = λ k m. inl m;
  marked = λ k c. absurd (nothing k c);
  others = λ k _ _. refl;
  fewer = omega arith;
}

pub grows_again : (root : ℕ) (new marks marks' found found' : List ℕ) (k : ℕ) → Grows root new marks marks' found found'
    → k < length marks → slice_index marks' k ≡ root → Grows root (new ++ k ∷ []) marks marks' found found'
grows_again root new marks marks' found found' k g within is = record {
  long = g.long;
  more = g.more;
  found_is = g.found_is;
  only_new = λ j c. Contains-append_left new (k ∷ []) j (g.only_new j c);
  all_new = λ j c. elim (Contains-push_cases new k j c)
      [ inl old ↦ g.all_new j old | inr e ↦ subst (λ n. IsMarked marks' root n) e (omega (arith, g.long), is) ];
  kept = g.kept;
  only_found = g.only_found;
  marked = g.marked;
  others = g.others;
  fewer = g.fewer;
}

-- what stands at j after a write at k
At : List ℕ → ℕ → ℕ → ℕ → Type 0
At marks k root j = ((j ≡ k) × (slice_index (slice_set marks k root) j ≡ root))
    ⊎ ((j ≢ k) × (slice_index (slice_set marks k root) j ≡ slice_index marks j))

at_set : (marks : List ℕ) (k root j : ℕ) → k < length marks → At marks k root j
unfolding At
at_set marks k root j within = by (j == k) refl
  where
    by : (b : Bool) → (j == k) ≡ b → ((j ≡ k) × (slice_index (slice_set marks k root) j ≡ root))
        ⊎ ((j ≢ k) × (slice_index (slice_set marks k root) j ≡ slice_index marks j))
    by true e = let same = eqb-true j k e in inl (
      same,
      subst (λ n. slice_index (slice_set marks k root) n ≡ root) (sym same)
          (get_or-set_same marks k root 0 within),
    )
    by false e = inr (eqb-false j k e, get_or-set_other marks k j root 0 (eqb-false j k e))

pub marked_after : (root : ℕ) (marks : List ℕ) (k j : ℕ) → k < length marks → IsMarked marks root j
    → IsMarked (slice_set marks k root) root j
unfolding At
marked_after root marks k j within m = (
  omega (arith, length-set {A = ℕ}),
  elim (at_set marks k root j within) [ inl here ↦ here.1 | inr there ↦ there.1 ∙ m.1 ],
)

pub marked_there : (root : ℕ) (marks : List ℕ) (k : ℕ) → k < length marks → IsMarked (slice_set marks k root) root k
marked_there root marks k within = (omega (arith, length-set {A = ℕ}), get_or-set_same marks k root 0 within)

pub marked_before : (root : ℕ) (marks : List ℕ) (k j : ℕ) → k < length marks → IsMarked (slice_set marks k root) root j
    → (j ≡ k) ⊎ IsMarked marks root j
unfolding At
marked_before root marks k j within m = elim (at_set marks k root j within)
    [ inl here ↦ inl here.0 | inr there ↦ inr (omega (arith, m.0, length-set {A = ℕ}), sym there.1 ∙ m.1) ]

pub other_after : (root : ℕ) (marks : List ℕ) (k j : ℕ) → k < length marks
    → slice_index (slice_set marks k root) j ≢ root → slice_index (slice_set marks k root) j ≡ slice_index marks j
unfolding At
other_after root marks k j within other = elim (at_set marks k root j within)
    [ inl here ↦ absurd (other here.1) | inr there ↦ there.1 ]

one_fewer : (root : ℕ) (marks : List ℕ) (k : ℕ) → k < length marks → slice_index marks k ≢ root
    → unmarked root (slice_set marks k root) + 1 ≡ unmarked root marks
one_fewer root marks k within isnt = elim (cases_Bool (slice_index marks k == root)) [
  | inl e ↦ absurd (isnt (eqb-true _ _ e))
  | inr e ↦ let total = sum_by-set (λ mark. if mark == root then 0 else 1) marks k root 0 within in
      omega (arith, rw (e, own) at total)
]
  where
    one : ℕ → ℕ
    one mark = if mark == root then 0 else 1

    own : (root == root) ≡ true
    own = eq-eqb root root refl

pub grows_first : (root : ℕ) (new marks marks' found found' : List ℕ) (k : ℕ) → Grows root new marks marks' found found'
    → k < length marks → slice_index marks' k ≢ root
    → Grows root (new ++ k ∷ []) marks (slice_set marks' k root) found (found' ++ k ∷ [])
unfolding At
grows_first root new marks marks' found found' k g within isnt = record {
  long = length-set marks' k root ∙ g.long;
  more = g.more ++ k ∷ [];
  found_is = ap (λ f. f ++ k ∷ []) g.found_is ∙ append_assoc found g.more (k ∷ []);
  only_new = λ j c. elim (Contains-push_cases g.more k j c) [
    | inl old ↦ Contains-append_left new (k ∷ []) j (g.only_new j old)
    | inr e ↦ subst (λ n. Contains (new ++ k ∷ []) n) e (Contains-push new k)
  ];
  all_new = λ j c. elim (Contains-push_cases new k j c) [
    | inl old ↦ marked_after root marks' k j within' (g.all_new j old)
    | inr e ↦ subst (λ n. IsMarked (slice_set marks' k root) root n) e (marked_there root marks' k within')
  ];
  kept = λ j m. marked_after root marks' k j within' (g.kept j m);
  only_found = λ j m. elim (marked_before root marks' k j within' m) [
    | inl e ↦ inr (subst (λ n. Contains (g.more ++ k ∷ []) n) (sym e) (Contains-push g.more k))
    | inr before ↦ elim (g.only_found j before)
        [ inl old ↦ inl old | inr new' ↦ inr (Contains-append_left g.more (k ∷ []) j new') ]
  ];
  marked = λ j c. elim (Contains-push_cases g.more k j c) [
    | inl old ↦ marked_after root marks' k j within' (g.marked j old)
    | inr e ↦ subst (λ n. IsMarked (slice_set marks' k root) root n) e (marked_there root marks' k within')
  ];
  others = λ j inside other. elim (at_set marks' k root j within')
      [ inl here ↦ absurd (other here.1) | inr there ↦ there.1 ∙ g.others j inside (λ e. other (there.1 ∙ e)) ];
  fewer = let once = one_fewer root marks' k within' isnt in let e = length-append g.more (k ∷ []) in
      omega (arith, once, e, g.fewer);
}
  where
    within' : k < length marks'
    within' = omega (arith, g.long)

-- one more is noted
pub grows_more : (root : ℕ) (new marks marks' marks'' found found' found'' : List ℕ) (i : ℕ)
    → Grows root (take i new) marks marks' found found'
    → i < length new
    → get_or new i 0 < length marks
    → (slice_index marks' (get_or new i 0) ≡ root → (marks'' ≡ marks') × (found'' ≡ found'))
    → (slice_index marks' (get_or new i 0) ≢ root → (marks'' ≡ slice_set marks' (get_or new i 0) root)
    × (found'' ≡ found' ++ get_or new i 0 ∷ []))
    → Grows root (take (i + 1) new) marks marks'' found found''
grows_more root new marks marks' marks'' found found' found'' i g within inside again first =
    rw (take_more new i 0 within) (by (slice_index marks' (get_or new i 0) == root) refl)
  where
    k : ℕ
    k = get_or new i 0

    by : (b : Bool) → (slice_index marks' (get_or new i 0) == root) ≡ b
        → Grows root (take i new ++ get_or new i 0 ∷ []) marks marks'' found found''
    by true e =
        let is = eqb-true _ _ e in
        let same = again is in
        rw (same.0, same.1) (grows_again root (take i new) marks marks' found found' (get_or new i 0) g inside is)
    by false e =
        let isnt : slice_index marks' (get_or new i 0) ≢ root = eqb-false _ _ e in
        let changed = first isnt in
        rw (changed.0, changed.1) (grows_first root (take i new) marks marks' found found' (get_or new i 0) g inside
        isnt)

-- ---- a search
-- what one thing grows to is that thing, where nothing had the mark
pub begun_with : (mark one : ℕ) (marks marks' found : List ℕ) → Grows mark (one ∷ []) marks marks' [] found
    → All (λ m. m ≢ mark) marks → (k : ℕ) → Contains found k ↔ IsMarked marks' mark k
begun_with mark one marks marks' found g fresh k = (
  λ c. g.marked k (rw is at c),
  λ m. rw is (elim (g.only_found k m) [ inl old ↦ absurd (fresh k 0 old.0 old.1) | inr new ↦ new ]),
)
  where
    is : found ≡ g.more
    is = g.found_is

-- the first thing was noted, where nothing had the mark
pub noted_once : (one : ℕ) (marks marks' before found : List ℕ) → one < length marks → All (λ m. m ≢ one) marks
    → before ≡ []
    → (slice_index marks one ≢ one → (marks' ≡ slice_set marks one one) × (found ≡ before ++ one ∷ []))
    → Grows one (one ∷ []) marks marks' [] found × (found ≡ one ∷ [])
noted_once one marks marks' before found within fresh none first =
    let apart : slice_index marks one ≢ one = fresh one 0 within in
    let new = first apart in
    let is : found ≡ one ∷ [] = new.1 ∙ ap (λ l. l ++ one ∷ []) none in (
      rw (new.0, is) (grows_first one [] marks marks [] [] one (grows_none one marks []) within apart),
      is,
    )

-- all else has kept its mark from the first thing on
pub kept_others : (mark : ℕ) (new marks marks' marks'' found : List ℕ) → Grows mark new marks marks' [] found
    → ((k : ℕ) → k < length marks' → slice_index marks'' k ≢ mark → slice_index marks'' k ≡ slice_index marks' k)
    → (k : ℕ) → k < length marks → slice_index marks'' k ≢ mark → slice_index marks'' k ≡ slice_index marks k
kept_others mark new marks marks' marks'' found g later k inside other =
    let same = later k (omega (arith, inside, g.long)) other in
    same ∙ g.others k inside (λ e. other (same ∙ e))

from_one : (graph : List (List ℕ)) (root k : ℕ) → IsReachedFrom graph (root ∷ []) k
    ↔ Reached (After graph) root k
from_one graph root k = (
  λ far. elim (Contains-push_cases [] root far.0 far.1) [
    | inl never ↦ absurd (nothing far.0 never)
    | inr e ↦ subst (λ n. Reached (After graph) n k) (sym e) far.2
  ],
  λ far. (root, (0, omega arith, refl), far),
)

pub reached_from_one : {P : Type 0} (graph : List (List ℕ)) (starts : List ℕ) (root k : ℕ) → starts ≡ root ∷ []
    → P ↔ IsReachedFrom graph starts k → P ↔ Reached (After graph) root k
reached_from_one graph starts root k is both =
    let there = subst (λ l. IsReachedFrom graph l k ↔ Reached (After graph) root k) (sym is) (from_one graph root k) in
    (λ p. there.0 (both.0 p), λ far. both.1 (there.1 far))

pub searches_start : (graph : List (List ℕ)) (starts : List ℕ) (mark : ℕ) (marks : List ℕ)
    → ((k : ℕ) → Contains starts k ↔ IsMarked marks mark k) → Searches graph starts mark marks marks starts 0
searches_start graph starts mark marks both = record {
  long = refl;
  within = omega arith;
  begins = λ k c. c;
  sound = λ k c. (k, c, itself);
  marked = λ k c. (both k).0 c;
  only = λ k m. (both k).1 m;
  others = λ k _ _. refl;
  closed = λ i below. absurd (omega arith);
}

pub searches_on : (graph : List (List ℕ)) (starts : List ℕ) (mark : ℕ) (marks marks' marks'' found found' : List ℕ) (at : ℕ)
    (row : List ℕ) → Searches graph starts mark marks marks' found at → at < length found
    → slice_get graph (slice_index found at) ≡ Some row → Grows mark row marks' marks'' found found'
    → Searches graph starts mark marks marks'' found' (at + 1)
searches_on graph starts mark marks marks' marks'' found found' at row s within is g = record {
  long = g.long ∙ s.long;
  within = let e = length-append found g.more in omega (arith, e, ap length g.found_is);
  begins = λ k c. onwards k (s.begins k c);
  sound = λ k c. elim (Contains-append_cases found g.more k (rw (g.found_is) at c)) [
    | inl old ↦ s.sound k old
    | inr new ↦ let far = s.sound (slice_index found at) here in
        (far.0, far.1, onward (slice_index found at) k far.2 (row, is, g.only_new k new))
  ];
  marked = λ k c. elim (Contains-append_cases found g.more k (rw (g.found_is) at c))
      [ inl old ↦ g.kept k (s.marked k old) | inr new ↦ g.marked k new ];
  only = λ k m. rw g.found_is (elim (g.only_found k m) [
    | inl old ↦ Contains-append_left found g.more k (s.only k old)
    | inr new ↦ Contains-append_right found g.more k new
  ]);
  others = λ k inside other. g.others k (omega (arith, s.long)) other
      ∙ s.others k inside (λ e. other (g.others k (omega (arith, s.long)) other ∙ e));
  closed = λ i below b after. by_place i b (i == at) refl below after;
}
  where
    here : Contains found (slice_index found at)
    here = (at, within, get_or_default found at (slice_index found at) 0 within)

    onwards : (k : ℕ) → Contains found k → Contains found' k
    onwards k c = rw g.found_is (Contains-append_left found g.more k c)

    stays : (i : ℕ) → i < length found → slice_index found' i ≡ slice_index found i
    stays i inside = rw g.found_is (get_or_append_left found g.more 0 i inside)

    by_place : (i b : ℕ) (t : Bool) → (i == at) ≡ t → i < at + 1 → After graph (slice_index found' i) b
        → Contains found' b
    by_place i b true e below after =
        let same = eqb-true i at e in
        let a : After graph (slice_index found at) b =
        subst (λ n. After graph n b) (stays i (omega arith) ∙ ap (λ n. slice_index found n) same) after in
        rw g.found_is (elim (g.only_found b (g.all_new b
        (subst (λ (r : List ℕ). Contains r b) (sym (same_Some row a.0 (sym is ∙ a.1))) a.2))) [
          | inl old ↦ Contains-append_left found g.more b (s.only b old)
          | inr new ↦ Contains-append_right found g.more b new
        ])
    by_place i b false e below after =
        let apart = eqb-false i at e in
        onwards b (s.closed i (omega (arith, apart)) b
        (subst (λ n. After graph n b) (stays i (omega (arith, apart))) after))

pub searches_end : (graph : List (List ℕ)) (starts : List ℕ) (mark : ℕ) (marks marks' found : List ℕ)
    (at start k : ℕ) → Searches graph starts mark marks marks' found at → length found ≤ at → Contains starts start
    → Reached (After graph) start k → Contains found k
searches_end graph starts mark marks marks' found at start k s done c itself = s.begins start c
searches_end graph starts mark marks marks' found at start k s done c (onward a b r after) =
    let there = searches_end graph starts mark marks marks' found at start a s done c r in
    s.closed there.0 (omega (arith, there.1)) b
    (subst (λ n. After graph n b) (sym there.2 ∙ get_or_default found there.0 a 0 there.1) after)

-- all was found
pub searches_all : (graph : List (List ℕ)) (starts : List ℕ) (mark : ℕ) (marks marks' found : List ℕ)
    (at k : ℕ) → Searches graph starts mark marks marks' found at → length found ≤ at
    → Contains found k ↔ IsReachedFrom graph starts k
searches_all graph starts mark marks marks' found at k s done = (
  s.sound k,
  λ far. searches_end graph starts mark marks marks' found at far.0 k s done far.1 far.2,
)

pub searches_marked : (graph : List (List ℕ)) (starts : List ℕ) (mark : ℕ) (marks marks' found : List ℕ)
    (at k : ℕ) → Searches graph starts mark marks marks' found at → length found ≤ at
    → IsMarked marks' mark k ↔ IsReachedFrom graph starts k
searches_marked graph starts mark marks marks' found at k s done = (
  λ m. s.sound k (s.only k m),
  λ far. s.marked k (searches_end graph starts mark marks marks' found at far.0 k s done far.1 far.2),
)

-- what is found stands in the table
pub found_within : (graph : List (List ℕ)) (starts : List ℕ) (mark : ℕ) (marks marks' found : List ℕ) (at x : ℕ)
    → Searches graph starts mark marks marks' found at → at < length found → x ≡ get_or found at x → x < length marks
found_within graph starts mark marks marks' found at x s within is = let m = s.marked x (at, within, sym is) in
    omega (arith, m.0, s.long)

pub rows_within : (graph : List (List ℕ)) (n x : ℕ) (row : List ℕ) → InRange graph n
    → slice_get graph x ≡ Some row → All (λ b. b < n) row
rows_within graph n x row all is = rw (get_or_from_slice_get graph x row row is) at
    (all x row (slice_get_within graph x row is))

pub searches_step : (graph : List (List ℕ)) (starts : List ℕ) (mark : ℕ)
    (marks marks' marks'' found found' : List ℕ) (at x : ℕ) (row : List ℕ)
    → Searches graph starts mark marks marks' found at → at < length found → x ≡ get_or found at x
    → slice_get graph x ≡ Some row → Grows mark row marks' marks'' found found'
    → Searches graph starts mark marks marks'' found' (at + 1)
searches_step graph starts mark marks marks' marks'' found found' at x row s within is there g =
    searches_on graph starts mark marks marks' marks'' found found' at row s within
    (subst (λ n. slice_get graph n ≡ Some row) (is ∙ get_or_default found at x 0 within) there) g

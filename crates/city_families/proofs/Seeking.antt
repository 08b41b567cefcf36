-- The families, object by object, and the search for what is in none.
use Rattle.std.proofs.Common.{◌≡◌, ◌≢◌, ◌<◌, ◌+◌, ◌++◌, ◌⊎◌, ◌↔◌, inl, inr, ℕ, zero, suc, Bool, true, false, List, [], ◌∷◌, length, get_or, map, take, drop, take_all, sym, refl, ap, subst, ◌∙◌, arith, ◌==◌, if◌then◌else◌, length-set, Result, Ok, Err}
use Rattle.std.proofs.lemmas.Bool.{cases_Bool, eqb-false, eqb-true}
use Rattle.std.proofs.Math.ListN.{get_or-map, replicate}
use Rattle.std.proofs.lemmas.List.{append-nil, drop_all, get_or_default, length-map, length-replicate, take_more}
use Rattle.std.proofs.lemmas.List.Elements.{Contains-append_left, Contains-push, Contains-push_cases}
use Rattle.std.specs.List.{All, AllZip, Contains, list_any, slice_index, slice_set}
use Rattle.std.specs.Prelude.{nat_eq, OnOk}
use Rattle.city_json.specs.Members.{names}
use Rattle.city_json.specs.Tree.{Tree, null, MemberTrees, member_trees}
use Rattle.city_families.specs.Chosen.{named_at}
use Rattle.city_families.specs.CityObjects.{AllBelong, HasOrphan, IsReached, has_parents, roots}
use Rattle.city_families.specs.Families.{AreListed, AreRelated, IsBeginner, IsInFamily, IsMarkedSoFar}
use Rattle.city_families.specs.Places.{ReachesPlace, name_at}
use Rattle.city_families.specs.Search.{IsMarked, IsReachedFrom}
use Rattle.city_families.proofs.Growth.{marked_after, marked_before, marked_there, other_after}
use Rattle.city_families.proofs.Kinship.{names_pairs, reached_at}

pub zip_push : {A B : Type 0} (R : A → B → Type 0) (xs : List A) (ys : List B) (x : A) (y : B) → AllZip R xs ys → R x y
    → AllZip R (xs ++ x ∷ []) (ys ++ y ∷ [])
zip_push R [] [] x y all last = (last, all)
zip_push R [] (b ∷ bs) x y all last = absurd all
zip_push R (a ∷ as_) [] x y all last = absurd all
zip_push R (a ∷ as_) (b ∷ bs) x y all last = (all.0, zip_push R as_ bs x y all.1 last)

pub marked_on : (n at : ℕ) (marks : List ℕ) → IsMarkedSoFar n at marks → IsMarkedSoFar n (at + 1) marks
marked_on n at marks s = record {
  as_many = s.as_many;
  before = λ i d below. elim (s.before i d below) [ inl none ↦ inl none | inr less ↦ inr (omega (arith, less)) ];
}

pub marked_more : (n at : ℕ) (marks marks' : List ℕ) → IsMarkedSoFar n at marks → length marks' ≡ length marks
    → ((k : ℕ) → k < length marks → slice_index marks' k ≢ at → slice_index marks' k ≡ slice_index marks k)
    → IsMarkedSoFar n (at + 1) marks'
marked_more n at marks marks' s long others = record { as_many = long ∙ s.as_many; before = before }
  where
    before : All (λ mark. (mark ≡ n) ⊎ (mark < at + 1)) marks'
    before i d below = elim (cases_Bool (slice_index marks' i == at)) [
      | inl e ↦ let own = eqb-true _ _ e in inr (omega (arith, here, own))
      | inr e ↦ let old = others i (omega (arith, below, long)) (eqb-false _ _ e) in
          let first = get_or_default marks i d 0 (omega (arith, below, long)) in
          elim (s.before i d (omega (arith, below, long))) [
            | inl none ↦ inl (here ∙ (old ∙ (sym first ∙ none)))
            | inr less ↦ inr (omega (arith, here, old, first, less))
          ]
    ]
      where
        here : get_or marks' i d ≡ slice_index marks' i
        here = get_or_default marks' i d 0 below

-- no mark is the place of the next object
pub unmarked_at : (n at : ℕ) (marks : List ℕ) → IsMarkedSoFar n at marks → at < n → All (λ mark. mark ≢ at) marks
unmarked_at n at marks s inside =
    λ i d below e. elim (s.before i d below) [
      | inl none ↦ omega (arith, none, e, inside)
      | inr less ↦ omega (arith, less, e)
    ]

-- ---- the objects that begin a feature
abbrev pub begun_by : List ℕ × Tree → List (List ℕ)
begun_by pair = if has_parents pair.1 then [] else pair.0 ∷ []

pub roots_push : (pairs : List (List ℕ × Tree)) (pair : List ℕ × Tree)
    → roots (member_trees (pairs ++ pair ∷ [])) ≡ roots (member_trees pairs) ++ begun_by pair
roots_push [] pair = by (has_parents pair.1) refl
  where
    by : (b : Bool) → has_parents pair.1 ≡ b → (if has_parents pair.1 then [] else pair.0 ∷ []) ≡ begun_by pair
    by b e = refl
roots_push (first ∷ others) pair = elim (cases_Bool (has_parents first.1)) [
  | inl e ↦ rw e (roots_push others pair)
  | inr e ↦ rw e (ap (λ l. first.0 ∷ l) (roots_push others pair))
]

pub roots_more : (pairs : List (List ℕ × Tree)) (i : ℕ) → i < length pairs
    → roots (member_trees (take (i + 1) pairs)) ≡ roots (member_trees (take i pairs)) ++ begun_by (named_at pairs i)
roots_more pairs i within = rw (take_more pairs i ([], null) within) (roots_push (take i pairs) (named_at pairs i))

name_of_pair : (pairs : List (List ℕ × Tree)) (i : ℕ) → i < length pairs
    → name_at (member_trees pairs) i ≡ (named_at pairs i).0
name_of_pair [] i within = absurd (omega (arith, within))
name_of_pair (p ∷ ps) zero within = refl
name_of_pair (p ∷ ps) (suc i) within = name_of_pair ps i (omega (arith, within))

-- whether the object at a place has parents
pub parted_here : (pairs : List (List ℕ × Tree)) (parents : List Bool) (i : ℕ) (has d : Bool)
    → parents ≡ map (λ (pair : List ℕ × Tree). has_parents pair.1) pairs → i < length parents
    → get_or parents i d ≡ has → has_parents (named_at pairs i).1 ≡ has
parted_here pairs parents i has d all within at =
    sym (sym at ∙ (get_or_default parents i d (has_parents null) within ∙ (ap (λ l. get_or l i (has_parents null)) all
    ∙ get_or-map (λ (pair : List ℕ × Tree). has_parents pair.1) pairs i ([], null))))

pub root_same : (pairs : List (List ℕ × Tree)) (i : ℕ) → i < length pairs → has_parents (named_at pairs i).1 ≡ true
    → roots (member_trees (take (i + 1) pairs)) ≡ roots (member_trees (take i pairs))
root_same pairs i within has = rw (roots_more pairs i within, has) (append-nil (roots (member_trees (take i pairs))))

pub root_more : (pairs : List (List ℕ × Tree)) (i : ℕ) → i < length pairs → has_parents (named_at pairs i).1 ≡ false
    → roots (member_trees (take (i + 1) pairs))
    ≡ roots (member_trees (take i pairs)) ++ name_at (member_trees pairs) i ∷ []
root_more pairs i within has = rw (roots_more pairs i within, has)
    (ap (λ n. roots (member_trees (take i pairs)) ++ n ∷ []) (sym (name_of_pair pairs i within)))

-- ---- the objects without parents, listed
pub listed_none : (parents : List Bool) (marks found : List ℕ) → length marks ≡ length parents
    → All (λ mark. mark ≡ 0) marks → found ≡ [] → AreListed parents 0 marks found
listed_none parents marks found long unmarked none = record {
  as_many = long;
  listed = λ k. (λ c. absurd (nowhere k c), λ before. absurd (omega (arith, before.0)));
  marked = λ k. (λ c. absurd (nowhere k c), λ m. absurd (omega (arith, m.1, unmarked k 0 m.0)));
  others = λ k inside _. unmarked k 0 inside;
}
  where
    nowhere : (k : ℕ) → Contains found k → ⊥
    nowhere k c = omega (arith, c.1, ap length none)

true_not_false : true ≡ false → ⊥
true_not_false e = cc

pub listed_on : (parents : List Bool) (at : ℕ) (d : Bool) (marks found : List ℕ) → AreListed parents at marks found
    → at < length parents → get_or parents at d ≡ true → AreListed parents (at + 1) marks found
listed_on parents at d marks found l within has = record {
  as_many = l.as_many;
  listed = λ k. (
    λ c. let there = (l.listed k).0 c in (omega (arith, there.0), there.1),
    λ before. (l.listed k).1 (earlier k before.0 before.1 (k == at) refl, before.1),
  );
  marked = l.marked;
  others = l.others;
}
  where
    earlier : (k : ℕ) → k < at + 1 → IsBeginner parents k → (b : Bool) → (k == at) ≡ b → k < at
    earlier k below begins true e =
        let here : get_or parents at true ≡ false = subst (IsBeginner parents) (eqb-true k at e) begins in
        absurd (true_not_false (sym has ∙ (get_or_default parents at d true within ∙ here)))
    earlier k below begins false e = omega (arith, below, eqb-false k at e)

pub listed_more : (parents : List Bool) (at : ℕ) (d : Bool) (marks marks' found found' : List ℕ)
    → AreListed parents at marks found → at < length parents → get_or parents at d ≡ false
    → (slice_index marks at ≢ 1 → (marks' ≡ slice_set marks at 1) × (found' ≡ found ++ at ∷ []))
    → AreListed parents (at + 1) marks' found'
listed_more parents at d marks marks' found found' l within none noted =
    rw ((noted new).0, (noted new).1) (record {
      as_many = length-set marks at 1 ∙ l.as_many;
      listed = λ k. (
        λ c. elim (Contains-push_cases found at k c) [
          | inl old ↦ let there = (l.listed k).0 old in (omega (arith, there.0), there.1)
          | inr e ↦ subst (λ n. (n < at + 1) × IsBeginner parents n) e (omega arith, begins)
        ],
        λ before. placed k before.0 before.1 (k == at) refl,
      );
      marked = λ k. (
        λ c. elim (Contains-push_cases found at k c) [
          | inl old ↦ marked_after 1 marks at k inside ((l.marked k).0 old)
          | inr e ↦ subst (λ n. IsMarked (slice_set marks at 1) 1 n) e (marked_there 1 marks at inside)
        ],
        λ m. elim (marked_before 1 marks at k inside m) [
          | inl e ↦ subst (λ n. Contains (found ++ at ∷ []) n) (sym e) (Contains-push found at)
          | inr old ↦ Contains-append_left found (at ∷ []) k ((l.marked k).1 old)
        ],
      );
      others = λ k below other.
          let same = other_after 1 marks at k inside other in
          same ∙ l.others k (omega (arith, below, length-set marks at 1)) (λ e. other (same ∙ e));
    })
  where
    inside : at < length marks
    inside = omega (arith, within, l.as_many)

    begins : IsBeginner parents at
    begins = sym (get_or_default parents at d true within) ∙ none

    new : slice_index marks at ≢ 1
    new e = let there = (l.listed at).0 ((l.marked at).1 (inside, e)) in omega (arith, there.0)

    placed : (k : ℕ) → k < at + 1 → IsBeginner parents k → (b : Bool) → (k == at) ≡ b → Contains (found ++ at ∷ []) k
    placed k below is true e =
        subst (λ n. Contains (found ++ at ∷ []) n) (sym (eqb-true k at e)) (Contains-push found at)
    placed k below is false e = Contains-append_left found (at ∷ []) k
        ((l.listed k).1 (omega (arith, below, eqb-false k at e), is))

beginner_within : (parents : List Bool) (k : ℕ) → IsBeginner parents k → k < length parents
beginner_within [] k is = absurd (true_not_false is)
beginner_within (p ∷ ps) zero is = omega arith
beginner_within (p ∷ ps) (suc k) is = let more = beginner_within ps k is in omega (arith, more)

-- what was listed is what begins a family
pub from_beginners : (graph : List (List ℕ)) (parents : List Bool) (marks found : List ℕ)
    → AreListed parents (length parents) marks found → {P : Type 0} (k : ℕ) → P ↔ IsReachedFrom graph found k
    → P ↔ IsInFamily graph parents k
from_beginners graph parents marks found l k both = (
  λ p. let far = both.0 p in (far.0, ((l.listed far.0).0 far.1).1, far.2),
  λ is. both.1 (is.0, (l.listed is.0).1 (beginner_within parents is.0 is.1, is.1), is.2),
)

-- what had another mark before still has it
pub unmarked_still : (marks marks' : List ℕ) → length marks' ≡ length marks
    → ((k : ℕ) → k < length marks → slice_index marks k ≢ 1 → slice_index marks k ≡ 0)
    → ((k : ℕ) → k < length marks → slice_index marks' k ≢ 1 → slice_index marks' k ≡ slice_index marks k)
    → (k : ℕ) → k < length marks' → slice_index marks' k ≢ 1 → slice_index marks' k ≡ 0
unmarked_still marks marks' long before kept k inside other =
    let same = kept k (omega (arith, inside, long)) other in
    same ∙ before k (omega (arith, inside, long)) (λ e. other (same ∙ e))

-- ---- the objects without parents, by their names
root_there : (pairs : List (List ℕ × Tree)) (k : ℕ) → k < length pairs → has_parents (named_at pairs k).1 ≡ false
    → Contains (roots (member_trees pairs)) (name_at (member_trees pairs) k)
root_there [] k within none = absurd (omega (arith, within))
root_there (p ∷ ps) zero within none = rw none (0, omega arith, refl)
root_there (p ∷ ps) (suc k) within none = elim (cases_Bool (has_parents p.1)) [
  | inl e ↦ rw e (root_there ps k (omega (arith, within)) none)
  | inr e ↦ rw e (suc (root_there ps k (omega (arith, within)) none).0, omega (arith, (root_there ps k (omega (arith, within)) none).1), (root_there ps k (omega (arith, within)) none).2)
]

abbrev RootPlace : List (List ℕ × Tree) → List ℕ → Type 0
RootPlace pairs id = (k : ℕ) × (k < length pairs) × (has_parents (named_at pairs k).1 ≡ false)
    × (name_at (member_trees pairs) k ≡ id)

root_place : (pairs : List (List ℕ × Tree)) (id : List ℕ) → Contains (roots (member_trees pairs)) id
    → RootPlace pairs id
root_place [] id c = absurd (omega (arith, c.1))
root_place (p ∷ ps) id c = by (has_parents p.1) refl (λ later. root_place ps id later)
  where
    onward : RootPlace ps id → RootPlace (p ∷ ps) id
    onward there = (suc there.0, omega (arith, there.1), there.2, there.3)

    pick : has_parents p.1 ≡ false → (i : ℕ) → i < length (p.0 ∷ roots (member_trees ps))
        → get_or (p.0 ∷ roots (member_trees ps)) i id ≡ id
        → (Contains (roots (member_trees ps)) id → RootPlace ps id) → RootPlace (p ∷ ps) id
    pick none zero below is later = (0, omega arith, none, is)
    pick none (suc i) below is later = onward (later (i, omega (arith, below), is))

    by : (b : Bool) → has_parents p.1 ≡ b → (Contains (roots (member_trees ps)) id → RootPlace ps id)
        → RootPlace (p ∷ ps) id
    by true e later = onward (later (rw e at c))
    by false e later = let there = rw e at c in pick e there.0 there.1 there.2 later

name_of_index : (objects : MemberTrees) (name : List ℕ) (c : Contains (names objects) name) → name_at objects c.0 ≡ name
name_of_index objects name c = get_or_default (names objects) c.0 [] name c.1 ∙ c.2

module _ (pairs : List (List ℕ × Tree)) (graph : List (List ℕ)) (parents : List Bool) (marks : List ℕ)
    (rel : AreRelated pairs graph parents) (long : length marks ≡ length graph)
    (both : (k : ℕ) → IsMarked marks 1 k ↔ IsInFamily graph parents k) where
  parented : (k : ℕ) → k < length parents → (has : Bool) → get_or parents k true ≡ has
      → has_parents (named_at pairs k).1 ≡ has
  parented k within has is = parted_here pairs parents k has true rel.parted within is

  many : length parents ≡ length pairs
  many = ap length rel.parted ∙ length-map pairs (λ (pair : List ℕ × Tree). has_parents pair.1)

  named : length (names (member_trees pairs)) ≡ length pairs
  named = names_pairs pairs

  pub belongs : ((k : ℕ) → k < length marks → slice_index marks k ≢ 1 → slice_index marks k ≡ 0)
      → ((k : ℕ) → k < length marks → slice_index marks k ≢ 0) → AllBelong (member_trees pairs)
  belongs others none name c =
      let inside : c.0 < length marks = omega (arith, c.1, long, rel.linked.long) in
      let far = (both c.0).0 (inside, marked c.0 inside (slice_index marks c.0 == 1) refl) in
      let within : far.0 < length parents = beginner_within parents far.0 far.1 in
      let reached = (reached_at (member_trees pairs) graph rel.differ rel.linked far.0 c.0
      (omega (arith, within, many, named)) c.1).0 far.2 in (
        name_at (member_trees pairs) far.0,
        root_there pairs far.0 (omega (arith, within, many)) (parented far.0 within false far.1),
        subst (IsReached (member_trees pairs) (name_at (member_trees pairs) far.0))
            (name_of_index (member_trees pairs) name c) reached,
      )
    where
      marked : (k : ℕ) → k < length marks → (b : Bool) → (slice_index marks k == 1) ≡ b → slice_index marks k ≡ 1
      marked k inside true e = eqb-true _ _ e
      marked k inside false e = absurd (none k inside (others k inside (eqb-false _ _ e)))

  pub is_orphan : (k : ℕ) → k < length marks → slice_index marks k ≡ 0 → HasOrphan (member_trees pairs)
  is_orphan k inside is =
      let below : k < length (names (member_trees pairs)) = omega (arith, inside, long, rel.linked.long) in (
        name_at (member_trees pairs) k,
        (k, below, get_or_default (names (member_trees pairs)) k (name_at (member_trees pairs) k) [] below),
        λ id c far. unreached id (root_place pairs id c) far,
      )
    where
      unreached : (id : List ℕ) → RootPlace pairs id
          → IsReached (member_trees pairs) id (name_at (member_trees pairs) k) → ⊥
      unreached id place far =
          let from : ReachesPlace (member_trees pairs) place.0 k =
          subst (λ i. IsReached (member_trees pairs) i (name_at (member_trees pairs) k)) (sym place.3) far in
          let steps = (reached_at (member_trees pairs) graph rel.differ rel.linked place.0 k
          (omega (arith, place.1, named)) (omega (arith, inside, long, rel.linked.long))).1 from in
          let begins : IsBeginner parents place.0 =
          by (get_or parents place.0 true) refl (omega (arith, place.1, many)) place.2 in
          let mark = (both k).1 (place.0, begins, steps) in
          omega (arith, mark.1, is)
        where
          by : (b : Bool) → get_or parents place.0 true ≡ b → place.0 < length parents
              → has_parents (named_at pairs place.0).1 ≡ false → get_or parents place.0 true ≡ false
          by true e within none = absurd (true_not_false (sym (parented place.0 within true e) ∙ none))
          by false e within none = e

-- ---- before the first object
replicated : (n x i d : ℕ) → i < n → get_or (replicate n x) i d ≡ x
replicated zero x i d below = absurd (omega (arith, below))
replicated (suc n) x zero d below = refl
replicated (suc n) x (suc i) d below = replicated n x i d (omega (arith, below))

pub marked_start : (n : ℕ) (marks : List ℕ) → marks ≡ replicate n n → IsMarkedSoFar n 0 marks
marked_start n marks all = record {
  as_many = ap length all ∙ length-replicate n n;
  before = λ i d below. inl (ap (λ l. get_or l i d) all
      ∙ replicated n n i d (omega (arith, below, ap length all, length-replicate n n)));
}

-- what is written back to the marks is all of them
pub written_back : (len : ℕ) (new old : List ℕ) → len ≡ length old → length new ≡ length old
    → take len (new ++ drop (length new) old) ≡ new
written_back len new old long same =
    ap (λ l. take len (new ++ l)) (drop_all (length new) old (omega arith))
    ∙ (ap (take len) (append-nil new) ∙ take_all len new (omega arith))

-- ---- the test for a mark
pub any_marked : (n : ℕ) (marks : List ℕ) → list_any (λ mark. nat_eq mark n) marks ≡ true → (k : ℕ) × (k < length marks)
    × (slice_index marks k ≡ n)
any_marked n [] found = cc
any_marked n (m ∷ ms) found = by (nat_eq m n) refl (λ later. any_marked n ms later)
  where
    by : (b : Bool) → nat_eq m n ≡ b → (list_any (λ mark. nat_eq mark n) ms ≡ true → (k : ℕ) × (k < length ms)
        × (slice_index ms k ≡ n)) → (k : ℕ) × (k < length (m ∷ ms)) × (slice_index (m ∷ ms) k ≡ n)
    by true e later = (0, omega arith, eqb-true m n e)
    by false e later = let there = later (rw e at found) in (suc there.0, omega (arith, there.1), there.2)

pub none_marked : (n : ℕ) (marks : List ℕ) → list_any (λ mark. nat_eq mark n) marks ≡ false → (k : ℕ) → k < length marks
    → slice_index marks k ≢ n
none_marked n [] none k below = absurd (omega (arith, below))
none_marked n (m ∷ ms) none k below = by (nat_eq m n) refl k below (λ later j inside. none_marked n ms later j inside)
  where
    by : (b : Bool) → nat_eq m n ≡ b → (k : ℕ) → k < length (m ∷ ms)
        → (list_any (λ mark. nat_eq mark n) ms ≡ false → (j : ℕ) → j < length ms → slice_index ms j ≢ n)
        → slice_index (m ∷ ms) k ≢ n
    by true e k below later = absurd (clash (rw e at none))
      where
        clash : true ≡ false → ⊥
        clash is = cc
    by false e zero below later = eqb-false m n e
    by false e (suc k) below later = later (rw e at none) k (omega (arith, below))

pub as_many_pairs : (pairs : List (List ℕ × Tree)) (graph : List (List ℕ)) (parents : List Bool)
    → AreRelated pairs graph parents → length graph ≡ length pairs
as_many_pairs pairs graph parents rel = rel.linked.long ∙ names_pairs pairs

pub related_as : (pairs : List (List ℕ × Tree)) (graph graph' : List (List ℕ)) (parents parents' : List Bool)
    → graph ≡ graph' → parents ≡ parents' → AreRelated pairs graph parents → AreRelated pairs graph' parents'
related_as pairs graph graph' parents parents' same same₂ rel =
    subst (λ g. AreRelated pairs g parents') same (subst (AreRelated pairs graph) same₂ rel)

-- ---- objects that are read
pub always : {A E P : Type 0} (answer : Result A E) → P → OnOk answer P
always (Ok x) holds = holds
always (Err e) holds = tt

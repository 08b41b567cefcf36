-- What is reached from a thing, found by Warshall's algorithm, and the list of it in order.
use Rattle.std.proofs.Common.{◌≡◌, ◌<◌, ◌≤◌, ◌+◌, ◌++◌, ◌⊎◌, ◌↔◌, inl, inr, ℕ, zero, suc, Bool, true, ◌==◌, ◌&&◌, List, [], ◌∷◌, Some, not, length, get_or, length-append, sym, refl, ap, subst, ◌∙◌, arith}
use Rattle.std.proofs.lemmas.Bool.{and_from, and_parts, cases_Bool, cases_eq, eq-eqb, eqb-true, or_cases, or_left, or_right}
use Rattle.std.proofs.lemmas.List.{get_or_append_left, get_or_push}
use Rattle.std.proofs.lemmas.List.Elements.{All-contains, All-contains_itself, All-filter, Contains-get_or, filter_passes}
use Rattle.std.proofs.lemmas.List.Folds.{Any-from_list_any, list_any-from_Any}
use Rattle.std.proofs.lemmas.List.Kept.{AllPairs-from_increasing, IsStrictlyIncreasing-filter}
use Rattle.std.proofs.lemmas.Option.{slice_get_within}
use Rattle.std.specs.List.{All, AllPairs, Contains, filter, list_any, slice_get}
use Rattle.std.specs.List.Sorted.{IsStrictlyIncreasing}
use Rattle.cut_on_text.specs.Made.{beginners, family, follows, numbers_below, passes}
use Rattle.city_families.specs.Reach.{Reached, itself, onward}
use Rattle.city_families.specs.Search.{After, InRange}
use Rattle.city_families.proofs.Growth.{rows_within}

nowhere : (k : ℕ) → Contains [] k → ⊥
nowhere k c = omega (arith, c.1)

-- ---- children
pub has_any : (xs : List ℕ) (b : ℕ) → list_any (λ x. x == b) xs ≡ true → Contains xs b
has_any xs b found =
    let there = Any-from_list_any (λ x. x == b) xs found in
    subst (Contains xs) (eqb-true there.1 b there.4) (there.0, there.2, there.3)

pub any_has : (xs : List ℕ) (b : ℕ) → Contains xs b → list_any (λ x. x == b) xs ≡ true
any_has xs b c = list_any-from_Any (λ x. x == b) xs (c.0, b, c.1, c.2, eq-eqb b b refl)

follows_after : (graph : List (List ℕ)) (a b : ℕ) → follows graph a b ≡ true → After graph a b
follows_after [] a b is = cc
follows_after (row ∷ rows) zero b is = (row, refl, has_any row b is)
follows_after (row ∷ rows) (suc a) b is = follows_after rows a b is

same_row : (x y : List ℕ) → Some x ≡ Some y → y ≡ x
same_row x y e = cc

after_follows : (graph : List (List ℕ)) (a b : ℕ) (row : List ℕ) → slice_get graph a ≡ Some row
    → Contains row b → follows graph a b ≡ true
after_follows [] a b row is c = cc
after_follows (first ∷ rows) zero b row is c =
    any_has first b (subst (λ (r : List ℕ). Contains r b) (same_row first row is) c)
after_follows (first ∷ rows) (suc a) b row is c = after_follows rows a b row is c

-- ---- what is passed through
reached_on : {A : Type 0} (Next : A → A → Type 0) (a b c : A) → Reached Next a b → Reached Next b c
    → Reached Next a c
reached_on Next a b c first itself = first
reached_on Next a b c first (onward m e more after) = onward m c (reached_on Next a b m first more) after

passes_reached : (graph : List (List ℕ)) (n a b : ℕ) → passes graph n a b ≡ true → Reached (After graph) a b
passes_reached graph zero a b is = elim (or_cases (a == b) (follows graph a b) is) [
  | inl same ↦ subst (Reached (After graph) a) (eqb-true a b same) itself
  | inr next ↦ onward a b itself (follows_after graph a b next)
]
passes_reached graph (suc k) a b is =
    elim (or_cases (passes graph k a b) (passes graph k a k && passes graph k k b) is) [
      | inl before ↦ passes_reached graph k a b before
      | inr both ↦ let parts = and_parts (passes graph k a k) (passes graph k k b) both in
          reached_on (After graph) a k b (passes_reached graph k a k parts.0) (passes_reached graph k k b parts.1)
    ]

passes_itself : (graph : List (List ℕ)) (n a : ℕ) → passes graph n a a ≡ true
passes_itself graph zero a = or_left (a == a) (follows graph a a) (eq-eqb a a refl)
passes_itself graph (suc k) a =
    or_left (passes graph k a a) (passes graph k a k && passes graph k k a) (passes_itself graph k a)

passes_next : (graph : List (List ℕ)) (n a b : ℕ) → follows graph a b ≡ true → passes graph n a b ≡ true
passes_next graph zero a b is = or_right (a == b) (follows graph a b) is
passes_next graph (suc k) a b is =
    or_left (passes graph k a b) (passes graph k a k && passes graph k k b) (passes_next graph k a b is)

-- from `a` by the last thing to `b`
by_last : (graph : List (List ℕ)) (k a b : ℕ) → passes graph k a k ≡ true → passes graph k k b ≡ true
    → passes graph (suc k) a b ≡ true
by_last graph k a b to from =
    or_right (passes graph k a b) (passes graph k a k && passes graph k k b)
    (and_from (passes graph k a k) (passes graph k k b) to from)

to_last : (graph : List (List ℕ)) (k a : ℕ) → passes graph (suc k) a k ≡ true → passes graph k a k ≡ true
to_last graph k a is = elim (or_cases (passes graph k a k) (passes graph k a k && passes graph k k k) is) [
  | inl before ↦ before
  | inr both ↦ (and_parts (passes graph k a k) (passes graph k k k) both).0
]

from_last : (graph : List (List ℕ)) (k b : ℕ) → passes graph (suc k) k b ≡ true → passes graph k k b ≡ true
from_last graph k b is = elim (or_cases (passes graph k k b) (passes graph k k k && passes graph k k b) is) [
  | inl before ↦ before
  | inr both ↦ (and_parts (passes graph k k k) (passes graph k k b) both).1
]

-- ways through one of the first `n` things are ways through these
passes_through : (graph : List (List ℕ)) (n a m b : ℕ) → m < n → passes graph n a m ≡ true
    → passes graph n m b ≡ true → passes graph n a b ≡ true
passes_through graph zero a m b below to from = absurd (omega (arith, below))
passes_through graph (suc k) a m b below to from = by (cases_eq m k)
    (λ x y less first second. passes_through graph k x m y less first second)
  where
    by : (m ≡ k) ⊎ (m ≡ k → ⊥)
        → ((x y : ℕ) → m < k → passes graph k x m ≡ true → passes graph k m y ≡ true → passes graph k x y ≡ true)
        → passes graph (suc k) a b ≡ true
    by (inl same) shorter = by_last graph k a b
        (to_last graph k a (subst (λ i. passes graph (suc k) a i ≡ true) same to))
        (from_last graph k b (subst (λ i. passes graph (suc k) i b ≡ true) same from))
    by (inr other) shorter =
        let less : m < k = omega (arith, below, other) in
        elim (or_cases (passes graph k a m) (passes graph k a k && passes graph k k m) to) [
          | inl to_it ↦ elim (or_cases (passes graph k m b) (passes graph k m k && passes graph k k b) from) [
            | inl from_it ↦ or_left (passes graph k a b) (passes graph k a k && passes graph k k b)
                (shorter a b less to_it from_it)
            | inr from_both ↦ let parts = and_parts (passes graph k m k) (passes graph k k b) from_both in
                by_last graph k a b (shorter a k less to_it parts.0) parts.1
          ]
          | inr to_both ↦
              let before = and_parts (passes graph k a k) (passes graph k k m) to_both in
              elim (or_cases (passes graph k m b) (passes graph k m k && passes graph k k b) from) [
                | inl from_it ↦ by_last graph k a b before.0 (shorter k b less before.1 from_it)
                | inr from_both ↦
                    by_last graph k a b before.0 (and_parts (passes graph k m k) (passes graph k k b) from_both).1
              ]
        ]

pub passes_sound : (graph : List (List ℕ)) (a b : ℕ) → passes graph (length graph) a b ≡ true
    → Reached (After graph) a b
passes_sound graph a b is = passes_reached graph (length graph) a b is

pub passes_complete : (graph : List (List ℕ)) (a b : ℕ) → Reached (After graph) a b
    → passes graph (length graph) a b ≡ true
passes_complete graph a b itself = passes_itself graph (length graph) a
passes_complete graph a b (onward m e far after) =
    passes_through graph (length graph) a m b (slice_get_within graph m after.0 after.1)
    (passes_complete graph a m far)
    (passes_next graph (length graph) m b (after_follows graph m b after.0 after.1 after.2))

-- what is reached has its place in the graph
pub reached_within : (graph : List (List ℕ)) (a b : ℕ) → InRange graph (length graph) → a < length graph
    → Reached (After graph) a b → b < length graph
reached_within graph a b within inside itself = inside
reached_within graph a b within inside (onward m e far after) =
    All-contains (λ k. k < length graph) after.0 b
    (rows_within graph (length graph) m after.0 within after.1) after.2

-- ---- numbers in order
pub numbers_below_long : (n : ℕ) → length (numbers_below n) ≡ n
numbers_below_long zero = refl
numbers_below_long (suc k) =
    omega (arith, length-append (numbers_below k) (k ∷ []), numbers_below_long k)

pub numbers_below_at : (n k d : ℕ) → k < n → get_or (numbers_below n) k d ≡ k
numbers_below_at zero k d below = absurd (omega (arith, below))
numbers_below_at (suc n) k d below = by (cases_eq k n) (λ less. numbers_below_at n k d less)
  where
    by : (k ≡ n) ⊎ (k ≡ n → ⊥) → (k < n → get_or (numbers_below n) k d ≡ k)
        → get_or (numbers_below n ++ n ∷ []) k d ≡ k
    by (inl same) before = get_or_push (numbers_below n) n d k (numbers_below_long n ∙ sym same) ∙ sym same
    by (inr other) before =
        let less : k < n = omega (arith, below, other) in
        get_or_append_left (numbers_below n) (n ∷ []) d k (omega (arith, less, numbers_below_long n)) ∙ before less

pub numbers_below_has : (n k : ℕ) → k < n → Contains (numbers_below n) k
numbers_below_has n k below = (k, omega (arith, below, numbers_below_long n), numbers_below_at n k k below)

pub numbers_below_within : (n k : ℕ) → Contains (numbers_below n) k → k < n
numbers_below_within n k c =
    let inside : c.0 < n = omega (arith, c.1, numbers_below_long n) in
    omega (arith, inside, numbers_below_at n c.0 k inside, c.2)

pub numbers_below_rise : (n : ℕ) → IsStrictlyIncreasing (numbers_below n)
numbers_below_rise n k more =
    let inside : k + 1 < n = omega (arith, more, numbers_below_long n) in
    omega (arith, numbers_below_at n k 0 (omega (arith, inside)), numbers_below_at n (k + 1) 0 inside)

-- ---- what a test keeps
filter_has : (p : ℕ → Bool) (xs : List ℕ) (x k : ℕ) → k < length xs → get_or xs k x ≡ x → p x ≡ true
    → Contains (filter p xs) x
filter_has p [] x k inside is passes = absurd (omega (arith, inside))
filter_has p (first ∷ others) x zero inside is passes =
    rw (ap p is ∙ passes) (0, omega arith, is)
filter_has p (first ∷ others) x (suc k) inside is passes = elim (cases_Bool (p first)) [
  | inl e ↦ rw e (suc (filter_has p others x k (omega (arith, inside)) is passes).0, omega (arith, (filter_has p others x k (omega (arith, inside)) is passes).1), (filter_has p others x k (omega (arith, inside)) is passes).2)
  | inr e ↦ rw e (filter_has p others x k (omega (arith, inside)) is passes)
]

pub family_has : (graph : List (List ℕ)) (root k : ℕ) → k < length graph
    → passes graph (length graph) root k ≡ true → Contains (family graph root) k
family_has graph root k inside is =
    let there = numbers_below_has (length graph) k inside in
    filter_has (passes graph (length graph) root) (numbers_below (length graph)) k there.0 there.1 there.2 is

pub family_passes : (graph : List (List ℕ)) (root k : ℕ) → Contains (family graph root) k
    → passes graph (length graph) root k ≡ true
family_passes graph root k c =
    All-contains (λ i. passes graph (length graph) root i ≡ true) (family graph root) k
    (filter_passes (passes graph (length graph) root) (numbers_below (length graph))) c

pub family_within : (graph : List (List ℕ)) (root k : ℕ) → Contains (family graph root) k → k < length graph
family_within graph root k c =
    let all = numbers_below (length graph) in
    numbers_below_within (length graph) k (All-contains (Contains all) (family graph root) k
    (All-filter (passes graph (length graph) root) (Contains all) all (All-contains_itself all)) c)

pub family_reached : (graph : List (List ℕ)) (root k : ℕ) → InRange graph (length graph) → root < length graph
    → Contains (family graph root) k ↔ Reached (After graph) root k
family_reached graph root k within inside = (
  λ c. passes_sound graph root k (family_passes graph root k c),
  λ far. family_has graph root k (reached_within graph root k within inside far) (passes_complete graph root k far),
)

pub family_rises : (graph : List (List ℕ)) (root : ℕ) → IsStrictlyIncreasing (family graph root)
family_rises graph root = IsStrictlyIncreasing-filter (passes graph (length graph) root) (numbers_below (length graph))
    (numbers_below_rise (length graph))

-- ---- lists that rise are the same where they have the same members
abbrev Rises : List ℕ → Type 0
Rises xs = AllPairs (λ x y. x < y) xs

later_rise : (x : ℕ) (xs : List ℕ) → Rises (x ∷ xs) → Rises xs
later_rise x xs up = λ i j d before inside. up (suc i) (suc j) d (omega (arith, before)) (omega (arith, inside))

first_below : (x k : ℕ) (xs : List ℕ) → Rises (x ∷ xs) → Contains xs k → x < k
first_below x k xs up c =
    let less : x < get_or xs c.0 k = up 0 (suc c.0) k (omega arith) (omega (arith, c.1)) in
    omega (arith, less, c.2)

first_or_later : (x k : ℕ) (xs : List ℕ) → Contains (x ∷ xs) k → (x ≡ k) ⊎ Contains xs k
first_or_later x k xs c = by c.0 c.1 c.2
  where
    by : (i : ℕ) → i < length (x ∷ xs) → get_or (x ∷ xs) i k ≡ k → (x ≡ k) ⊎ Contains xs k
    by zero inside is = inl is
    by (suc i) inside is = inr (i, omega (arith, inside), is)

has_later : (x k : ℕ) (xs : List ℕ) → Contains xs k → Contains (x ∷ xs) k
has_later x k xs c = (suc c.0, omega (arith, c.1), c.2)

first_least : (x k : ℕ) (xs : List ℕ) → Rises (x ∷ xs) → Contains (x ∷ xs) k → x ≤ k
first_least x k xs up c = elim (first_or_later x k xs c)
    [ inl same ↦ omega (arith, same) | inr later ↦ let less = first_below x k xs up later in omega (arith, less) ]

-- what comes after the first is after the first of the other list
only_later : (x k : ℕ) (xs ys : List ℕ) → Rises (x ∷ xs)
    → ((i : ℕ) → Contains (x ∷ xs) i → Contains (x ∷ ys) i) → Contains xs k → Contains ys k
only_later x k xs ys up to c =
    let less = first_below x k xs up c in
    elim (first_or_later x k ys (to k (has_later x k xs c)))
    [ inl same ↦ absurd (omega (arith, less, same)) | inr later ↦ later ]

same_members : (xs ys : List ℕ) → Rises xs → Rises ys → ((k : ℕ) → Contains xs k → Contains ys k)
    → ((k : ℕ) → Contains ys k → Contains xs k) → xs ≡ ys
same_members [] [] up up' to from = refl
same_members [] (y ∷ ys) up up' to from = absurd (nowhere y (from y (0, omega arith, refl)))
same_members (x ∷ xs) [] up up' to from = absurd (nowhere x (to x (0, omega arith, refl)))
same_members (x ∷ xs) (y ∷ ys) up up' to from =
    let low : y ≤ x = first_least y x ys up' (to x (0, omega arith, refl)) in
    let high : x ≤ y = first_least x y xs up (from y (0, omega arith, refl)) in
    let same : x ≡ y = omega (arith, low, high) in
    both same (λ zs up'' to' from'. same_members xs zs (later_rise x xs up) up'' to' from')
  where
    both : x ≡ y
        → ((zs : List ℕ) → Rises zs → ((k : ℕ) → Contains xs k → Contains zs k)
        → ((k : ℕ) → Contains zs k → Contains xs k) → xs ≡ zs)
        → x ∷ xs ≡ y ∷ ys
    both same later =
        let up_y : Rises (x ∷ ys) = subst (λ i. Rises (i ∷ ys)) (sym same) up' in
        let to_y : (k : ℕ) → Contains (x ∷ xs) k → Contains (x ∷ ys) k =
        subst (λ i. (k : ℕ) → Contains (x ∷ xs) k → Contains (i ∷ ys) k) (sym same) to in
        let from_y : (k : ℕ) → Contains (x ∷ ys) k → Contains (x ∷ xs) k =
        subst (λ i. (k : ℕ) → Contains (i ∷ ys) k → Contains (x ∷ xs) k) (sym same) from in
        let tails : xs ≡ ys = later ys (later_rise x ys up_y) (λ k c. only_later x k xs ys up to_y c)
        (λ k c. only_later x k ys xs up_y from_y c) in
        ap (λ i. i ∷ xs) same ∙ ap (λ l. y ∷ l) tails

pub same_rising : (xs ys : List ℕ) → IsStrictlyIncreasing xs → IsStrictlyIncreasing ys
    → ((k : ℕ) → Contains xs k ↔ Contains ys k) → xs ≡ ys
same_rising xs ys up up' both = same_members xs ys (AllPairs-from_increasing xs up) (AllPairs-from_increasing ys up')
    (λ k. (both k).0) (λ k. (both k).1)

-- whatever rises and has what is reached is the family
pub family_is : (graph : List (List ℕ)) (root : ℕ) (found : List ℕ) → InRange graph (length graph)
    → root < length graph → IsStrictlyIncreasing found
    → ((k : ℕ) → Contains found k ↔ Reached (After graph) root k) → found ≡ family graph root
family_is graph root found within inside up both = same_rising found (family graph root) up (family_rises graph root)
    (λ k. let own = family_reached graph root k within inside in
    (λ c. own.1 ((both k).0 c), λ c. (both k).1 (own.0 c)))

-- ---- the objects without parents
pub beginners_within : (parents : List Bool) → All (λ k. k < length parents) (beginners parents)
beginners_within parents = All-filter (λ k. not (get_or parents k true)) (λ k. k < length parents)
    (numbers_below (length parents))
    (λ i d inside. numbers_below_within (length parents) (get_or (numbers_below (length parents)) i d)
    (Contains-get_or (numbers_below (length parents)) i d inside))

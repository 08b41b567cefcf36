-- Lists in turn interleave: the number of the list of each item.
use Rattle.std.proofs.Common.{◌≡◌, ◌≢◌, ◌≤◌, ◌<◌, ◌+◌, ◌++◌, ℕ, zero, suc, Bool, true, false, List, [], ◌∷◌, length, take, drop, get_or, ◌==◌, if◌then◌else◌, refl, sym, ap, ◌∙◌, arith, length-append}
use Rattle.std.proofs.lemmas.Bool.{eq-eqb, ne_eqb}
use Rattle.std.proofs.lemmas.List.{take-append-drop}
use Rattle.std.proofs.lemmas.List.Elements.{All-append, All-from_recursion}
use Rattle.std.specs.List.{All, AllByRecursion}
use Rattle.tile_merge.specs.Interleaves.{Interleaves, items_numbered}
use Rattle.tile_merge.specs.Turns.{firsts, rests, longest, rounds, turns}
use Rattle.tile_merge.proofs.TurnsLaws.{longest_rests}

module _ {X : Type 0} where
  -- ---- items at the places of a number ----

  pub at_own : (t n : ℕ) (numbers : List ℕ) (item : X) (out : List X) → n ≡ t
      → items_numbered t (n ∷ numbers) (item ∷ out) ≡ item ∷ items_numbered t numbers out
  at_own t n numbers item out same = rw (eq-eqb n t same) refl

  pub at_other : (t n : ℕ) (numbers : List ℕ) (item : X) (out : List X) → n ≢ t
      → items_numbered t (n ∷ numbers) (item ∷ out) ≡ items_numbered t numbers out
  at_other t n numbers item out other = rw (ne_eqb n t other) refl

  one_more : (is_own : Bool) (item : X) (items others : List X)
      → (if is_own then item ∷ (items ++ others) else (items ++ others)) ≡ (if is_own then item ∷ items else items)
      ++ others
  one_more true item items others = refl
  one_more false item items others = refl

  pub at-append : (t : ℕ) (numbers more : List ℕ) (out others : List X) → length numbers ≡ length out
      → items_numbered t (numbers ++ more) (out ++ others)
      ≡ items_numbered t numbers out ++ items_numbered t more others
  at-append t [] more [] others long = refl
  at-append t [] more (item ∷ out) others long = absurd (omega (arith, long))
  at-append t (n ∷ numbers) more [] others long = absurd (omega (arith, long))
  at-append t (n ∷ numbers) more (item ∷ out) others long =
      rw (at-append t numbers more out others (omega (arith, long)))
      (one_more (n == t) item (items_numbered t numbers out) (items_numbered t more others))

  -- ---- one round ----

  -- the numbers of the lists that have a first item, counted from `next`
  numbers_of_firsts : ℕ → List (List X) → List ℕ
  numbers_of_firsts next [] = []
  numbers_of_firsts next ([] ∷ others) = numbers_of_firsts (suc next) others
  numbers_of_firsts next ((item ∷ list) ∷ others) = next ∷ numbers_of_firsts (suc next) others

  firsts_long : (next : ℕ) (lists : List (List X)) → length (numbers_of_firsts next lists) ≡ length (firsts lists)
  unfolding numbers_of_firsts
  firsts_long next [] = refl
  firsts_long next ([] ∷ others) = firsts_long (suc next) others
  firsts_long next ((item ∷ list) ∷ others) = ap suc (firsts_long (suc next) others)

  firsts_own : (next end : ℕ) (lists : List (List X)) → next + length lists ≤ end
      → AllByRecursion (λ (n : ℕ). n < end) (numbers_of_firsts next lists)
  unfolding numbers_of_firsts
  firsts_own next end [] within = tt
  firsts_own next end ([] ∷ others) within = firsts_own (suc next) end others (omega (arith, within))
  firsts_own next end ((item ∷ list) ∷ others) within =
      (omega (arith, within), firsts_own (suc next) end others (omega (arith, within)))

  -- no list before has a first item here
  firsts_past : (t next : ℕ) (lists : List (List X)) → t < next
      → items_numbered t (numbers_of_firsts next lists) (firsts lists) ≡ []
  unfolding numbers_of_firsts
  firsts_past t next [] past = refl
  firsts_past t next ([] ∷ others) past = firsts_past t (suc next) others (omega (arith, past))
  firsts_past t next ((item ∷ list) ∷ others) past =
      at_other t next _ item _ (λ same. omega (arith, past, same))
      ∙ firsts_past t (suc next) others (omega (arith, past))

  firsts_at : (t next : ℕ) (lists : List (List X)) (place : ℕ) → t ≡ next + place
      → items_numbered t (numbers_of_firsts next lists) (firsts lists) ≡ take 1 (get_or lists place [])
  unfolding numbers_of_firsts
  firsts_at t next [] place is = refl
  firsts_at t next ([] ∷ others) zero is = firsts_past t (suc next) others (omega (arith, is))
  firsts_at t next ([] ∷ others) (suc place) is = firsts_at t (suc next) others place (omega (arith, is))
  firsts_at t next ((item ∷ list) ∷ others) zero is =
      at_own t next _ item _ (omega (arith, is))
      ∙ ap (λ (l : List X). item ∷ l) (firsts_past t (suc next) others (omega (arith, is)))
  firsts_at t next ((item ∷ list) ∷ others) (suc place) is =
      at_other t next _ item _ (λ same. omega (arith, same, is))
      ∙ firsts_at t (suc next) others place (omega (arith, is))

  -- ---- all rounds ----

  rest_at : (lists : List (List X)) (t : ℕ) → get_or (rests lists) t [] ≡ drop 1 (get_or lists t [])
  rest_at [] t = refl
  rest_at (list ∷ others) zero = refl
  rest_at (list ∷ others) (suc t) = rest_at others t

  rests_long : (lists : List (List X)) → length (rests lists) ≡ length lists
  rests_long [] = refl
  rests_long (list ∷ others) = ap suc (rests_long others)

  list_within : (lists : List (List X)) (t : ℕ) → length (get_or lists t []) ≤ longest lists
  list_within [] t = omega arith
  list_within (list ∷ others) zero = omega arith
  list_within (list ∷ others) (suc t) = omega (arith, list_within others t)

  numbers_in : ℕ → List (List X) → List ℕ
  numbers_in zero lists = []
  numbers_in (suc n) lists = numbers_of_firsts 0 lists ++ numbers_in n (rests lists)

  numbers_long : (n : ℕ) (lists : List (List X)) → length (numbers_in n lists) ≡ length (rounds n lists)
  unfolding numbers_in rounds
  numbers_long zero lists = refl
  numbers_long (suc n) lists =
      omega (
        arith,
        length-append (numbers_of_firsts 0 lists) (numbers_in n (rests lists)),
        length-append (firsts lists) (rounds n (rests lists)),
        firsts_long 0 lists,
        numbers_long n (rests lists),
      )

  numbers_own : (n : ℕ) (lists : List (List X)) (end : ℕ) → length lists ≡ end
      → All (λ (k : ℕ). k < end) (numbers_in n lists)
  unfolding numbers_in
  numbers_own zero lists end long = λ k d within. absurd (omega (arith, within))
  numbers_own (suc n) lists end long = All-append (λ (k : ℕ). k < end) (numbers_of_firsts 0 lists)
      (numbers_in n (rests lists))
      (All-from_recursion (λ (k : ℕ). k < end) _ (firsts_own 0 end lists (omega (arith, long))))
      (numbers_own n (rests lists) end (rests_long lists ∙ long))

  empty : (list : List X) → length list ≤ 0 → list ≡ []
  empty [] none = refl
  empty (item ∷ list) none = absurd (omega (arith, none))

  items_are : (n : ℕ) (lists : List (List X)) (t : ℕ) → longest lists ≤ n
      → items_numbered t (numbers_in n lists) (rounds n lists) ≡ get_or lists t []
  unfolding numbers_in rounds
  items_are zero lists t long = sym (empty (get_or lists t []) (omega (arith, list_within lists t, long)))
  items_are (suc n) lists t long =
      let list = get_or lists t [] in
      let later = items_numbered t (numbers_in n (rests lists)) (rounds n (rests lists)) in
      let first = firsts_at t 0 lists t (omega arith) in
      let others = items_are n (rests lists) t (omega (arith, longest_rests lists, long)) ∙ rest_at lists t in
      at-append t (numbers_of_firsts 0 lists) (numbers_in n (rests lists)) (firsts lists) (rounds n (rests lists))
      (firsts_long 0 lists) ∙ ap (λ (l : List X). l ++ later) first ∙ ap (λ (l : List X). take 1 list ++ l) others
      ∙ take-append-drop 1 list

  pub interleaves : (lists : List (List X)) → Interleaves lists (turns lists)
  interleaves lists = record {
    numbers = numbers_in (longest lists) lists;
    long = numbers_long (longest lists) lists;
    own = numbers_own (longest lists) lists (length lists) refl;
    each = λ t within. items_are (longest lists) lists t (omega arith);
  }

-- Texts that are taken of several tiles, as they come: what was taken interleaves them.
use Rattle.std.proofs.Common.{◌≡◌, ◌≢◌, ◌≤◌, ◌<◌, ◌+◌, ◌++◌, ℕ, zero, suc, Bool, true, false, List, [], ◌∷◌, length, get_or, set, map, ◌==◌, if◌then◌else◌, refl, sym, ap, ◌∙◌, arith, append-nil, length-append}
use Rattle.std.proofs.lemmas.Bool.{eq-eqb}
use Rattle.std.proofs.lemmas.Bool.Decides.{nat_tests}
use Rattle.std.proofs.lemmas.List.{get_or-set_same, get_or-set_other, length-map}
use Rattle.std.proofs.lemmas.List.Elements.{All-append}
use Rattle.std.specs.List.{All, AllByRecursion}
use Rattle.tile_merge.specs.Interleaves.{Interleaves, items_numbered}
use Rattle.tile_merge.specs.Opened.{AllThree}
use Rattle.tile_merge.proofs.Opening.{all_three_long}
use Rattle.tile_merge.proofs.TurnsInterleave.{at-append, at_other, at_own}

set_long : {Y : Type 0} (items : List Y) (i : ℕ) (y : Y) → length (set items i y) ≡ length items
set_long [] i y = refl
set_long (x ∷ items) zero y = refl
set_long (x ∷ items) (suc i) y = ap suc (set_long items i y)

module _ {X : Type 0} where
  -- the items of a number, where one more item is of it or of another
  at_one : (t n : ℕ) (item : X) (same : Bool) → (n == t) ≡ same
      → items_numbered t (n ∷ []) (item ∷ []) ≡ (if same then item ∷ [] else [])
  at_one t n item same is = rw is refl

  at_this : (lists : List (List X)) (i t : ℕ) (item : X) → i < length lists → (same : Bool) → (i == t) ≡ same
      → get_or lists t [] ++ (if same then item ∷ [] else [])
      ≡ get_or (set lists i (get_or lists i [] ++ item ∷ [])) t []
  at_this lists i t item within true is =
      let same : t ≡ i = grind (arith, nat_tests, is) in
      rw same (sym (get_or-set_same lists i (get_or lists i [] ++ item ∷ []) [] within))
  at_this lists i t item within false is =
      let other : t ≢ i = λ same. absurd (cc (sym is ∙ eq-eqb i t (sym same))) in
      append-nil (get_or lists t []) ∙ sym (get_or-set_other lists i t (get_or lists i [] ++ item ∷ []) [] other)

  -- nothing was taken
  pub none_mixed : (lists : List (List X)) → AllByRecursion (λ (list : List X). list ≡ []) lists → Interleaves lists []
  none_mixed lists none = record {
    numbers = [];
    long = refl;
    own = λ k d within. absurd (omega (arith, within));
    each = λ t within. sym (empty_at lists none t);
  }
    where
      empty_at : (ls : List (List X)) → AllByRecursion (λ (list : List X). list ≡ []) ls → (t : ℕ) → get_or ls t [] ≡ []
      empty_at [] nothing t = refl
      empty_at (list ∷ ls) nothing zero = nothing.0
      empty_at (list ∷ ls) nothing (suc t) = empty_at ls nothing.1 t

  -- an item more of the list of number i
  pub one_mixed : (lists : List (List X)) (out : List X) (i : ℕ) (item : X) → i < length lists → Interleaves lists out
      → Interleaves (set lists i (get_or lists i [] ++ item ∷ [])) (out ++ item ∷ [])
  one_mixed lists out i item within mixed =
      let longer = set_long lists i (get_or lists i [] ++ item ∷ []) in
      let Own : ℕ → Type 0 = λ n. n < length (set lists i (get_or lists i [] ++ item ∷ [])) in
      record {
        numbers = mixed.numbers ++ i ∷ [];
        long = omega (arith, length-append mixed.numbers (i ∷ []), length-append out (item ∷ []), mixed.long);
        own = All-append Own mixed.numbers (i ∷ []) (λ k d there. omega (arith, longer, mixed.own k d there))
            (λ k d there. only_own Own k d (omega (arith, there)) (omega (arith, longer, within)));
        each = λ t there.
            at-append t mixed.numbers (i ∷ []) out (item ∷ []) mixed.long
            ∙ ap (λ items. items ++ items_numbered t (i ∷ []) (item ∷ [])) (mixed.each t (omega (arith, there, longer)))
            ∙ ap (λ items. get_or lists t [] ++ items) (at_one t i item (i == t) refl)
            ∙ at_this lists i t item within (i == t) refl;
      }
    where
      only_own : (P : ℕ → Type 0) (k d : ℕ) → k < 1 → P i → P (get_or (i ∷ []) k d)
      only_own P zero d there holds = holds
      only_own P (suc k) d there holds = absurd (omega (arith, there))

-- ---- lists of which only the first items were taken ----

module _ {X : Type 0} where
  -- what was taken of a list, and what is left of it
  abbrev pub AreParted : List X → List X → List X → Type 0
  AreParted taken whole rest = whole ≡ taken ++ rest

  -- all items, list after list
  abbrev pub flat : List (List X) → List X
  flat [] = []
  flat (list ∷ lists) = list ++ flat lists

  -- for each item of the rests the number of its list, counted from `next`
  numbers_of : ℕ → List (List X) → List ℕ
  numbers_of next [] = []
  numbers_of next (rest ∷ rests) = map (λ item. next) rest ++ numbers_of (suc next) rests

  numbers_long : (next : ℕ) (rests : List (List X)) → length (numbers_of next rests) ≡ length (flat rests)
  unfolding numbers_of
  numbers_long next [] = refl
  numbers_long next (rest ∷ rests) =
      let long = length-map rest (λ (item : X). next) in
      omega (
        arith,
        long,
        numbers_long (suc next) rests,
        length-append (map (λ (item : X). next) rest) (numbers_of (suc next) rests),
        length-append rest (flat rests),
      )

  same_own : (P : ℕ → Type 0) (next : ℕ) → P next → (rest : List X) → All P (map (λ item. next) rest)
  same_own P next holds [] k d within = absurd (omega (arith, within))
  same_own P next holds (item ∷ rest) zero d within = holds
  same_own P next holds (item ∷ rest) (suc k) d within = same_own P next holds rest k d (omega (arith, within))

  numbers_own : (count next : ℕ) (rests : List (List X)) → next + length rests ≤ count
      → All (λ (n : ℕ). n < count) (numbers_of next rests)
  unfolding numbers_of
  numbers_own count next [] fits = λ k d within. absurd (omega (arith, within))
  numbers_own count next (rest ∷ rests) fits =
      let Own : ℕ → Type 0 = λ n. n < count in
      All-append Own (map (λ item. next) rest) (numbers_of (suc next) rests)
      (same_own Own next (omega (arith, fits)) rest) (numbers_own count (suc next) rests (omega (arith, fits)))

  here_at : (t next : ℕ) (rest : List X) → next ≡ t → items_numbered t (map (λ item. next) rest) rest ≡ rest
  here_at t next [] same = refl
  here_at t next (item ∷ rest) same = at_own t next (map (λ item. next) rest) item rest same
      ∙ ap (λ items. item ∷ items) (here_at t next rest same)

  elsewhere_at : (t next : ℕ) (rest : List X) → next ≢ t → items_numbered t (map (λ item. next) rest) rest ≡ []
  elsewhere_at t next [] other = refl
  elsewhere_at t next (item ∷ rest) other = at_other t next (map (λ item. next) rest) item rest other
      ∙ elsewhere_at t next rest other

  before_at : (t next : ℕ) (rests : List (List X)) → t < next
      → items_numbered t (numbers_of next rests) (flat rests) ≡ []
  unfolding numbers_of
  before_at t next [] before = refl
  before_at t next (rest ∷ rests) before =
      at-append t (map (λ item. next) rest) (numbers_of (suc next) rests) rest (flat rests)
      (length-map rest (λ (item : X). next))
      ∙ ap (λ items. items ++ items_numbered t (numbers_of (suc next) rests) (flat rests))
      (elsewhere_at t next rest (λ same. omega (arith, same, before)))
      ∙ before_at t (suc next) rests (omega (arith, before))

  rest_at : (t next place : ℕ) (rests : List (List X)) → t ≡ next + place
      → items_numbered t (numbers_of next rests) (flat rests) ≡ get_or rests place []
  unfolding numbers_of
  rest_at t next place [] is = refl
  rest_at t next zero (rest ∷ rests) is =
      at-append t (map (λ item. next) rest) (numbers_of (suc next) rests) rest (flat rests)
      (length-map rest (λ (item : X). next))
      ∙ ap (λ items. items ++ items_numbered t (numbers_of (suc next) rests) (flat rests))
      (here_at t next rest (omega (arith, is)))
      ∙ ap (λ items. rest ++ items) (before_at t (suc next) rests (omega (arith, is)))
      ∙ append-nil rest
  rest_at t next (suc place) (rest ∷ rests) is =
      at-append t (map (λ item. next) rest) (numbers_of (suc next) rests) rest (flat rests)
      (length-map rest (λ (item : X). next))
      ∙ ap (λ items. items ++ items_numbered t (numbers_of (suc next) rests) (flat rests))
      (elsewhere_at t next rest (λ same. omega (arith, same, is)))
      ∙ rest_at t (suc next) place rests (omega (arith, is))

  parted_at : (taken wholes rests : List (List X)) → AllThree AreParted taken wholes rests → (t : ℕ)
      → get_or wholes t [] ≡ get_or taken t [] ++ get_or rests t []
  parted_at [] [] [] parted t = refl
  parted_at (list ∷ taken) (whole ∷ wholes) (rest ∷ rests) parted zero = parted.0
  parted_at (list ∷ taken) (whole ∷ wholes) (rest ∷ rests) parted (suc t) = parted_at taken wholes rests parted.1 t
  parted_at [] [] (rest ∷ rests) parted t = absurd parted
  parted_at [] (whole ∷ wholes) rests parted t = absurd parted
  parted_at (list ∷ taken) [] rests parted t = absurd parted
  parted_at (list ∷ taken) (whole ∷ wholes) [] parted t = absurd parted

  -- what was taken, and then what is left of each list, interleaves the whole lists
  pub mixed_on : (taken wholes rests : List (List X)) → AllThree AreParted taken wholes rests → (out : List X)
      → Interleaves taken out → Interleaves wholes (out ++ flat rests)
  mixed_on taken wholes rests parted out mixed =
      let long = all_three_long AreParted taken wholes rests parted in
      record {
        numbers = mixed.numbers ++ numbers_of 0 rests;
        long = omega (
          arith,
          length-append mixed.numbers (numbers_of 0 rests),
          length-append out (flat rests),
          mixed.long,
          numbers_long 0 rests,
        );
        own = All-append (λ (n : ℕ). n < length wholes) mixed.numbers (numbers_of 0 rests)
            (λ k d there. omega (arith, long.0, mixed.own k d there))
            (numbers_own (length wholes) 0 rests (omega (arith, long.0, long.1)));
        each = λ t there.
            at-append t mixed.numbers (numbers_of 0 rests) out (flat rests) mixed.long
            ∙ ap (λ items. items ++ items_numbered t (numbers_of 0 rests) (flat rests))
            (mixed.each t (omega (arith, there, long.0)))
            ∙ ap (λ items. get_or taken t [] ++ items) (rest_at t 0 t rests (omega arith))
            ∙ sym (parted_at taken wholes rests parted t);
      }

  nothing_before : (lists : List (List X)) → AllThree AreParted (map (λ list. []) lists) lists lists
  nothing_before [] = tt
  nothing_before (list ∷ lists) = (refl, nothing_before lists)

  all_empty : (lists : List (List X)) → AllByRecursion (λ (list : List X). list ≡ []) (map (λ list. []) lists)
  all_empty [] = tt
  all_empty (list ∷ lists) = (refl, all_empty lists)

  -- one list after another is an interleaving, too
  pub flat_mixed : (lists : List (List X)) → Interleaves lists (flat lists)
  flat_mixed lists =
      let empties : List (List X) = map (λ list. []) lists in
      mixed_on empties lists lists (nothing_before lists) [] (none_mixed empties (all_empty lists))

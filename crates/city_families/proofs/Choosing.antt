-- The objects at places that rise are those that stand there, in order.
use Rattle.std.proofs.Common.{◌≡◌, ◌<◌, ◌≤◌, ◌+◌, ◌⊎◌, inl, inr, ℕ, zero, suc, Bool, true, false, List, [], ◌∷◌, length, get_or, map, sym, refl, ap, subst, ◌∙◌, arith, ◌==◌}
use Rattle.std.proofs.lemmas.Bool.{eqb-true, eqb-false}
use Rattle.std.proofs.Math.ListN.{get_or-map}
use Rattle.std.proofs.lemmas.List.{length-map}
use Rattle.std.proofs.lemmas.List.Elements.{All-from_recursion}
use Rattle.std.specs.Borrow.{Bor}
use Rattle.std.specs.List.{AllByRecursion, Contains}
use Rattle.std.specs.List.Sorted.{IsStrictlyIncreasing}
use Rattle.city_json.specs.declared.json.Member.{Member}
use Rattle.city_json.specs.Tree.{Tree, member_trees, named_tree}
use Rattle.city_families.specs.Chosen.{chosen_objects}
use Rattle.city_families.specs.Cut.{AreThose}

abbrev pub Rises : ℕ → List ℕ → Type 0
Rises low [] = Unit {0}
Rises low (p ∷ ps) = (low ≤ p) × Rises (p + 1) ps

tail_above : (p : ℕ) (ps : List ℕ) (k : ℕ) → get_or ps k 0 < get_or (p ∷ ps) (suc k + 1) 0
    → get_or ps k 0 < get_or ps (k + 1) 0
tail_above p ps k above = let next : suc k + 1 ≡ suc (k + 1) = omega arith in
    subst (λ n. get_or ps k 0 < get_or (p ∷ ps) n 0) next above

pub rises_from : (low : ℕ) (places : List ℕ) → IsStrictlyIncreasing places
    → (0 < length places → low ≤ get_or places 0 0) → Rises low places
rises_from low [] above first = tt
rises_from low (p ∷ ps) above first = (
  first (omega arith),
  rises_from (p + 1) ps (λ k within. tail_above p ps k (above (suc k) (omega (arith, within))))
      (λ some. let next = above 0 (omega (arith, some)) in omega (arith, next)),
)

contains_first : (p k : ℕ) (ps : List ℕ) → Contains (p ∷ ps) k → (p ≡ k) ⊎ Contains ps k
contains_first p k ps (zero, within, is) = inl is
contains_first p k ps (suc i, within, is) = inr (i, omega (arith, within), is)

contains_later : (p k : ℕ) (ps : List ℕ) → Contains ps k → Contains (p ∷ ps) k
contains_later p k ps (i, within, is) = (suc i, omega (arith, within), is)

rises_above : (low k : ℕ) (places : List ℕ) → Rises low places → Contains places k → low ≤ k
rises_above low k [] rises c = omega (arith, c.1)
rises_above low k (p ∷ ps) rises c = elim (contains_first p k ps c) [
  | inl e ↦ omega (arith, e, rises.0)
  | inr later ↦ let above = rises_above (p + 1) k ps rises.1 later in
      omega (arith, above, rises.0)
]

pub those : (Is : List ℕ → Type 0) (all : List (List ℕ × Tree)) (offset : ℕ) (places : List ℕ)
    (whole : ℕ → List ℕ × Tree)
    → ((k : ℕ) (d : List ℕ × Tree) → k < length all → whole (offset + k) ≡ get_or all k d)
    → Rises offset places
    → ((k : ℕ) → Contains places k → k < offset + length all)
    → ((k : ℕ) → offset ≤ k → k < offset + length all → Contains places k → Is (whole k).0)
    → ((k : ℕ) → offset ≤ k → k < offset + length all → Is (whole k).0 → Contains places k)
    → AreThose Is (member_trees all) (map whole places)
those Is [] offset [] whole agree rises within sound complete = refl
those Is [] offset (p ∷ ps) whole agree rises within sound complete = let below = within p (0, omega arith, refl) in
    absurd (omega (arith, below, rises.0))
those Is (o ∷ os) offset [] whole agree rises within sound complete = inr (
  λ is. let none = complete offset (omega arith) (omega arith)
      (subst (λ n. Is n) (sym (ap (λ (pair : List ℕ × Tree). pair.0) here)) is) in omega (arith, none.1),
  those Is os (offset + 1) [] whole next tt (λ k c. absurd (omega (arith, c.1)))
      (λ k low high c. absurd (omega (arith, c.1)))
      (λ k low high is. complete k (omega (arith, low)) (omega (arith, high)) is),
)
  where
    here : whole offset ≡ o
    here = ap whole (omega arith) ∙ agree 0 o (omega arith)

    next : (k : ℕ) (d : List ℕ × Tree) → k < length os → whole (offset + 1 + k) ≡ get_or os k d
    next k d below = ap whole (omega arith) ∙ agree (suc k) d (omega (arith, below))
those Is (o ∷ os) offset (p ∷ ps) whole agree rises within sound complete =
    by (p == offset) refl (λ low within' sound' complete'.
    those Is os (offset + 1) ps whole next low within' sound' complete')
    (λ low within' sound' complete'. those Is os (offset + 1) (p ∷ ps) whole next low within' sound' complete')
  where
    here : whole offset ≡ o
    here = ap whole (omega arith) ∙ agree 0 o (omega arith)

    next : (k : ℕ) (d : List ℕ × Tree) → k < length os → whole (offset + 1 + k) ≡ get_or os k d
    next k d below = ap whole (omega arith) ∙ agree (suc k) d (omega (arith, below))

    -- the same of the objects after the first, at these places
    Later : List ℕ → Type 0
    Later places =
        Rises (offset + 1) places
        → ((k : ℕ) → Contains places k → k < offset + 1 + length os)
        → ((k : ℕ) → offset + 1 ≤ k → k < offset + 1 + length os → Contains places k → Is (whole k).0)
        → ((k : ℕ) → offset + 1 ≤ k → k < offset + 1 + length os → Is (whole k).0 → Contains places k)
        → AreThose Is (member_trees os) (map whole places)

    by : (b : Bool) → (p == offset) ≡ b → Later ps → Later (p ∷ ps)
        → AreThose Is (member_trees (o ∷ os)) (map whole (p ∷ ps))
    by true e others all =
        let same = eqb-true p offset e in
        inl (
          subst (λ n. Is n) (ap (λ (pair : List ℕ × Tree). pair.0) here)
              (sound offset (omega arith) (omega arith) (0, omega arith, same)),
          (
            map whole ps,
            ap (λ pair. pair ∷ map whole ps) (ap whole same ∙ here),
            others (subst (λ n. Rises n ps) (ap (λ n. n + 1) same) rises.1)
                (λ k c. let high = within k (contains_later p k ps c) in omega (arith, high))
                (λ k low high c. sound k (omega (arith, low)) (omega (arith, high)) (contains_later p k ps c))
                (λ k low high is. elim (contains_first p k ps
                (complete k (omega (arith, low)) (omega (arith, high)) is))
                [ inl at ↦ absurd (omega (arith, at, same, low)) | inr later ↦ later ]),
          ),
        )
    by false e others all =
        let apart = eqb-false p offset e in
        inr (
          λ is. let there = rises_above p offset (p ∷ ps) (omega arith, rises.1)
              (complete offset (omega arith) (omega arith)
              (subst (λ n. Is n) (sym (ap (λ (pair : List ℕ × Tree). pair.0) here)) is)) in
              apart (omega (arith, there, rises.0)),
          all (omega (arith, rises.0, apart), rises.1) (λ k c. let high = within k c in omega (arith, high))
              (λ k low high c. sound k (omega (arith, low)) (omega (arith, high)) c)
              (λ k low high is. complete k (omega (arith, low)) (omega (arith, high)) is),
        )

-- what holds of the chosen objects holds of each
pub at_chosen : (P : List ℕ × Tree → Type 0) (chosen : List (Bor Member)) (i : ℕ) (m : Bor Member)
    → AllByRecursion P (chosen_objects chosen) → i < length chosen → m ≡ get_or chosen i m → P (named_tree m.now)
at_chosen P chosen i m all within at =
    subst P (get_or-map (λ (b : Bor Member). named_tree b.now) chosen i m
    ∙ ap (λ (b : Bor Member). named_tree b.now) (sym at))
    (All-from_recursion P (chosen_objects chosen) all i (named_tree m.now)
    (omega (arith, within, length-map chosen (λ (b : Bor Member). named_tree b.now))))

-- The things that are reached from one, as they are noted.
use Rattle.std.proofs.Common.{◌≡◌, ◌<◌, ◌≤◌, ◌+◌, ◌++◌, ◌⊎◌, ◌↔◌, inl, inr, ℕ, zero, suc, List, [], ◌∷◌, Some, length, get_or, length-append, sym, refl, ap, subst, ◌∙◌, arith}
use Rattle.std.proofs.lemmas.Bool.{cases_eq}
use Rattle.std.proofs.lemmas.List.{get_or_append_left, get_or_default}
use Rattle.std.proofs.lemmas.Option.{same_Some}
use Rattle.std.specs.List.{Contains, slice_get, slice_index}
use Rattle.std.specs.List.Sorted.{IsStrictlyIncreasing}
use Rattle.cut_on_text.specs.Made.{family, first_uses}
use Rattle.city_families.specs.Reach.{Reached, itself, onward}
use Rattle.city_families.specs.Search.{After, InRange}
use Rattle.cut_on_text.proofs.Noted.{first_uses-front, first_uses-has, first_uses-keep, first_uses-only}
use Rattle.cut_on_text.proofs.Passes.{family_is}

-- only what is reached was noted, and what comes after each of the first `at` of it
pub record Gathers (graph : List (List ℕ)) (root : ℕ) (order : List ℕ) (at : ℕ) : Type 0 where
  pub within : at ≤ length order
  pub begins : Contains order root
  pub sound : (k : ℕ) → Contains order k → Reached (After graph) root k
  pub closed : (i : ℕ) → i < at → (b : ℕ) → After graph (slice_index order i) b → Contains order b

pub gathers_start : (graph : List (List ℕ)) (root : ℕ) → Gathers graph root (root ∷ []) 0
gathers_start graph root = record {
  within = omega arith;
  begins = (0, omega arith, refl);
  sound = λ k c. subst (Reached (After graph) root) (only k c.0 c.1 c.2) itself;
  closed = λ i below. absurd (omega (arith, below));
}
  where
    only : (k i : ℕ) → i < length (root ∷ []) → get_or (root ∷ []) i k ≡ k → root ≡ k
    only k zero inside is = is
    only k (suc i) inside is = absurd (omega (arith, inside))

pub gathers_more : (graph : List (List ℕ)) (root : ℕ) (order order' : List ℕ) (at : ℕ) (row : List ℕ)
    → Gathers graph root order at → at < length order → slice_get graph (slice_index order at) ≡ Some row
    → order' ≡ first_uses order row → Gathers graph root order' (at + 1)
gathers_more graph root order order' at row g inside is new = subst (λ l. Gathers graph root l (at + 1)) (sym new) (record {
  within = let long = ap length front.1 in omega (arith, long, length-append order front.0, inside);
  begins = first_uses-keep order row root g.begins;
  sound = λ k c. elim (first_uses-only order row k c) [
    | inl old ↦ g.sound k old
    | inr next ↦ onward (slice_index order at) k (g.sound (slice_index order at) here) (row, is, next)
  ];
  closed = λ i below b after. by i b (cases_eq i at) below after;
})
  where
    front : (more : List ℕ) × (first_uses order row ≡ order ++ more)
    front = first_uses-front order row

    here : Contains order (slice_index order at)
    here = (at, inside, get_or_default order at (slice_index order at) 0 inside)

    stays : (i : ℕ) → i < length order → slice_index (first_uses order row) i ≡ slice_index order i
    stays i less = ap (λ l. slice_index l i) front.1 ∙ get_or_append_left order front.0 0 i less

    by : (i b : ℕ) → (i ≡ at) ⊎ (i ≡ at → ⊥) → i < at + 1
        → After graph (slice_index (first_uses order row) i) b → Contains (first_uses order row) b
    by i b (inl same) below after =
        let a : After graph (slice_index order at) b =
        subst (λ n. After graph n b) (stays i (omega (arith, same, inside)) ∙ ap (slice_index order) same) after in
        let c : Contains row b =
        subst (λ (r : List ℕ). Contains r b) (same_Some a.0 row (sym a.1 ∙ is)) a.2 in
        first_uses-has order row c.0 b c.1 c.2
    by i b (inr apart) below after =
        let less : i < at = omega (arith, below, apart) in
        first_uses-keep order row b
        (g.closed i less b (subst (λ n. After graph n b) (stays i (omega (arith, less, inside))) after))

gathers_all : (graph : List (List ℕ)) (root : ℕ) (order : List ℕ) (at k : ℕ) → Gathers graph root order at
    → length order ≤ at → Reached (After graph) root k → Contains order k
gathers_all graph root order at k g done itself = g.begins
gathers_all graph root order at k g done (onward m e far after) =
    let there = gathers_all graph root order at m g done far in
    g.closed there.0 (omega (arith, there.1, done)) k
    (subst (λ n. After graph n k) (sym there.2 ∙ get_or_default order there.0 m 0 there.1) after)

pub gathered : (graph : List (List ℕ)) (root : ℕ) (order sorted : List ℕ) (at : ℕ)
    → InRange graph (length graph) → root < length graph → Gathers graph root order at → length order ≤ at
    → IsStrictlyIncreasing sorted → ((k : ℕ) → Contains sorted k ↔ Contains order k) → sorted ≡ family graph root
gathered graph root order sorted at within inside g done rises same =
    family_is graph root sorted within inside rises (λ k. (
      λ c. g.sound k ((same k).0 c),
      λ far. (same k).1 (gathers_all graph root order at k g done far),
    ))

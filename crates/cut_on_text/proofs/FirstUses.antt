-- Numbers in the order of their first uses: the place of each in it counts up.
use Rattle.std.proofs.Common.{◌≡◌, ◌<◌, ◌++◌, ◌==◌, inl, inr, ℕ, suc, true, false, List, [], ◌∷◌, length, get_or, map, sym, refl, ap, subst, ◌∙◌, arith, append_assoc, length-append}
use Rattle.std.proofs.lemmas.Bool.{cases_Bool, eq-eqb, false≢true}
use Rattle.std.proofs.lemmas.List.Elements.{All-contains, Contains-get_or}
use Rattle.std.specs.List.{All, Contains, list_any, slice_index}
use Rattle.cut_on_text.specs.Made.{first_uses, place_in}
use Rattle.city_families.specs.Points.{CountsUp}
use Rattle.cut_on_text.proofs.Noted.{first_uses-front, first_uses-has, first_uses-only, place_there}
use Rattle.cut_on_text.proofs.Passes.{has_any}

place_before : (xs ys : List ℕ) (k : ℕ) → list_any (λ x. x == k) xs ≡ true → place_in (xs ++ ys) k ≡ place_in xs k
place_before [] ys k there = absurd (false≢true there)
place_before (x ∷ xs) ys k there = elim (cases_Bool (x == k)) [
  | inl e ↦ rw e refl
  | inr e ↦ rw e (ap suc ((place_before xs ys k) (rw e at there)))
]

place_after : (xs ys : List ℕ) (k : ℕ) → list_any (λ x. x == k) xs ≡ false → place_in (xs ++ k ∷ ys) k ≡ length xs
place_after [] ys k none = rw (eq-eqb k k refl) refl
place_after (x ∷ xs) ys k none = elim (cases_Bool (x == k)) [
  | inl e ↦ absurd (false≢true (sym (rw e at none)))
  | inr e ↦ rw e (ap suc ((place_after xs ys k) (rw e at none)))
]

counts_from : (before ks all : List ℕ) → first_uses before ks ≡ all
    → CountsUp (length before) (map (place_in all) ks) (length all)
counts_from before [] all is = ap length is
counts_from before (k ∷ ks) all is = elim (cases_Bool (list_any (λ x. x == k) before)) [
  | inl e ↦ let here : first_uses before ks ≡ all = rw e at is in
      let front = first_uses-front before ks in
      let place : place_in all k ≡ place_in before k =
      ap (λ l. place_in l k) (sym here ∙ front.1) ∙ place_before before front.0 k e in
      inl (omega (arith, place, (place_there before k (has_any before k e)).0), (counts_from before ks all) here)
  | inr e ↦ let here : first_uses (before ++ k ∷ []) ks ≡ all = rw e at is in
      let front = first_uses-front (before ++ k ∷ []) ks in
      let place : place_in all k ≡ length before =
      ap (λ l. place_in l k) (sym here ∙ (front.1 ∙ append_assoc before (k ∷ []) front.0))
      ∙ place_after before front.0 k e in
      inr (
        place,
        subst (λ n. CountsUp n (map (place_in all) ks) (length all)) (length-append before (k ∷ [])) ((counts_from (before ++ k ∷ []) ks all) here),
      )
]

module _ (ks : List ℕ) where
  pub counts_up : CountsUp 0 (map (place_in (first_uses [] ks)) ks) (length (first_uses [] ks))
  counts_up = counts_from [] ks (first_uses [] ks) refl

  pub place_of_use : (k : ℕ) → Contains ks k → (place_in (first_uses [] ks) k < length (first_uses [] ks))
      × (slice_index (first_uses [] ks) (place_in (first_uses [] ks) k) ≡ k)
  place_of_use k c = place_there (first_uses [] ks) k (first_uses-has [] ks c.0 k c.1 c.2)

  pub first_within : (P : ℕ → Type 0) → All P ks → All P (first_uses [] ks)
  first_within P all i d below =
      elim (first_uses-only [] ks (get_or (first_uses [] ks) i d) (Contains-get_or (first_uses [] ks) i d below)) [
        | inl none ↦ absurd (omega (arith, none.1))
        | inr used ↦ All-contains P ks (get_or (first_uses [] ks) i d) all used
      ]

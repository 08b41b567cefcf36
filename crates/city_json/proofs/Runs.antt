-- Runs of bytes, sixteen bytes at a time: those at which a run goes on, and those that stop it.
use Rattle.std.proofs.Common.{◌≡◌, ℕ, ◌+◌, ◌*◌, ◌<◌, ◌≤◌, Bool, not, cond, eqb, List, [], ◌∷◌, map, length, length-drop, drop, refl, sym, ap, ◌∙◌, inl, inr, arith}
use Rattle.std.specs.List.{prefix_len}
use Rattle.std.proofs.lemmas.Bool.{cases_Bool, cond-true, cond-false, eq-eqb, ne_eqb}
use Rattle.std.proofs.lemmas.List.Folds.{prefix_len-append}
use Rattle.std.proofs.lemmas.List.Sums.{prefix_len-le-length}
use Rattle.std.proofs.lemmas.Simd.{chunk-drop, length-chunk, first_set_mask_l}
use lib.Count.{count_trailing_zeros}
use lib.Lanes.{chunk, mask_l}

module _ (goes_on is_stop : ℕ → Bool) (opposite : (b : ℕ) → not (is_stop b) ≡ goes_on b) where
  none_stops : (bytes : List ℕ) → prefix_len goes_on bytes ≡ length bytes → mask_l (map is_stop bytes) ≡ 0
  none_stops [] e = refl
  none_stops (b ∷ bytes) e = elim (cases_Bool (is_stop b)) [
    | inl is ↦ absurd (omega (
      arith,
      sym (cond-false (goes_on b) (1 + prefix_len goes_on bytes) 0 (sym (opposite b) ∙ ap not is)) ∙ e,
    ))
    | inr is ↦ let rest = none_stops bytes (omega (
      arith,
      sym (cond-true (goes_on b) (1 + prefix_len goes_on bytes) 0 (sym (opposite b) ∙ ap not is)) ∙ e,
    )) in
        ap (λ t. cond t 1 0 + 2 * mask_l (map is_stop bytes)) is ∙ ap (λ m. 0 + 2 * m) rest
  ]

  module _ (bytes : List ℕ) (at : ℕ) (room : at + 16 ≤ length bytes) where
    in_vector : cond (eqb (mask_l (map is_stop (chunk at 16 bytes))) 0) 16
        (count_trailing_zeros 64 (mask_l (map is_stop (chunk at 16 bytes)))) ≡ prefix_len goes_on (chunk at 16 bytes)
    in_vector = first_set_mask_l is_stop (chunk at 16 bytes) 16 (length-chunk at 16 bytes room) (omega arith)
        ∙ ap (λ (p : ℕ → Bool). prefix_len p (chunk at 16 bytes)) (λ i b. opposite b i)

    split : prefix_len goes_on (drop at bytes)
        ≡ cond (eqb (prefix_len goes_on (chunk at 16 bytes)) (length (chunk at 16 bytes)))
        (length (chunk at 16 bytes) + prefix_len goes_on (drop (at + 16) bytes))
        (prefix_len goes_on (chunk at 16 bytes))
    split = ap (prefix_len goes_on) (chunk-drop at 16 bytes)
        ∙ prefix_len-append goes_on (chunk at 16 bytes) (drop (at + 16) bytes)

    pub run_goes_on : mask_l (map is_stop (chunk at 16 bytes)) ≡ 0
        → prefix_len goes_on (drop at bytes) ≡ 16 + prefix_len goes_on (drop (at + 16) bytes)
    run_goes_on none =
        let long = length-chunk at 16 bytes room in
        let whole = sym in_vector ∙ cond-true _ _ _ (eq-eqb _ 0 none) in
        split ∙ cond-true _ _ _ (eq-eqb _ _ (whole ∙ sym long))
        ∙ ap (λ n. n + prefix_len goes_on (drop (at + 16) bytes)) long

    pub run_stops : 0 < mask_l (map is_stop (chunk at 16 bytes))
        → prefix_len goes_on (drop at bytes) ≡ count_trailing_zeros 64 (mask_l (map is_stop (chunk at 16 bytes)))
    run_stops some =
        let mask = mask_l (map is_stop (chunk at 16 bytes)) in
        let set : mask ≡ 0 → ⊥ = λ e. omega arith in
        split ∙ cond-false _ _ _ (ne_eqb _ _
        (λ (e : prefix_len goes_on (chunk at 16 bytes) ≡ length (chunk at 16 bytes)).
        set (none_stops (chunk at 16 bytes) e)))
        ∙ sym in_vector ∙ cond-false _ _ _ (ne_eqb mask 0 set)

pub run_within : (goes_on : ℕ → Bool) (bytes : List ℕ) (at : ℕ) → at ≤ length bytes
    → at + prefix_len goes_on (drop at bytes) ≤ length bytes
run_within goes_on bytes at h = omega (arith, prefix_len-le-length goes_on (drop at bytes), length-drop at bytes)

-- What `value_at` is, by the first byte.
use Rattle.std.proofs.Common.{◌≡◌, ◌-◌, ℕ, zero, suc, List, [], ◌∷◌, Option, Some, None, length, take, drop, refl, ap, sym, ◌∙◌, arith, slice_get}
use Rattle.std.proofs.lemmas.List.{take_all}
use Rattle.city_json.specs.Reading.{value_at, by_first, value_from, scalar_at, array_at, object_at, start_of}
use Rattle.city_json.specs.Tree.{Tree}
use Rattle.city_json.specs.declared.reading.Start.{Start}
use Rattle.city_json.specs.declared.reading.Start.TheVariants as start

begins : (bytes : List ℕ) (first : ℕ) → Some first ≡ slice_get bytes 0 → bytes ≡ first ∷ drop 1 bytes
begins [] first is = cc
begins (b ∷ bytes) first is = cc

by_first-first : (read : Start → List ℕ → Option (Tree × List ℕ)) (bytes : List ℕ) (first : ℕ) (kind : Start)
    → Some first ≡ slice_get bytes 0 → kind ≡ start_of first → by_first read bytes ≡ read kind bytes
by_first-first read bytes first kind is starts = rw (begins bytes first is, starts) refl

after_the_first : (bytes : List ℕ) → take (length bytes - 1) (drop 1 bytes) ≡ drop 1 bytes
after_the_first [] = refl
after_the_first (b ∷ bytes) = take_all (length (b ∷ bytes) - 1) bytes (omega arith)

value_from-scalar : (inner : List ℕ → Option (Tree × List ℕ)) (kind : Start) (bytes : List ℕ) → (kind ≡ start.List → ⊥)
    → (kind ≡ start.Map → ⊥) → value_from inner kind bytes ≡ scalar_at kind bytes
value_from-scalar inner start.List bytes list map = absurd (list refl)
value_from-scalar inner start.Map bytes list map = absurd (map refl)
value_from-scalar inner _ bytes list map = refl

pub value_at-empty : (levels : ℕ) (bytes : List ℕ) → ◌≡◌ {A = Option ℕ} None (slice_get bytes 0)
    → value_at levels bytes ≡ None
unfolding value_at
value_at-empty zero [] is = refl
value_at-empty (suc levels) [] is = refl
value_at-empty levels (b ∷ bytes) is = cc

pub value_at-scalar_below : (levels : ℕ) (bytes : List ℕ) (first : ℕ) (kind : Start) → Some first ≡ slice_get bytes 0
    → kind ≡ start_of first → levels ≡ 0 → scalar_at kind bytes ≡ value_at levels bytes
unfolding value_at
value_at-scalar_below levels bytes first kind is starts none =
    rw none (sym (by_first-first scalar_at bytes first kind is starts))

module _ (levels : ℕ) (bytes : List ℕ) (first : ℕ) (kind : Start) (is : Some first ≡ slice_get bytes 0)
    (starts : kind ≡ start_of first) (some : levels ≡ 0 → ⊥) where
  one_more : levels ≡ suc (levels - 1)
  one_more = omega arith

  value_at-kind : value_at levels bytes ≡ value_from (value_at (levels - 1)) kind bytes
  unfolding value_at
  value_at-kind = ap (λ n. value_at n bytes) one_more
      ∙ by_first-first (value_from (value_at (levels - 1))) bytes first kind is starts

  pub value_at-array : kind ≡ start.List
      → array_at (value_at (levels - 1)) (take (length bytes - 1) (drop 1 bytes)) ≡ value_at levels bytes
  value_at-array list = rw (after_the_first bytes, value_at-kind, list) refl

  pub value_at-object : kind ≡ start.Map
      → object_at (value_at (levels - 1)) (take (length bytes - 1) (drop 1 bytes)) ≡ value_at levels bytes
  value_at-object map = rw (after_the_first bytes, value_at-kind, map) refl

  pub value_at-scalar : (kind ≡ start.List → ⊥) → (kind ≡ start.Map → ⊥) → scalar_at kind bytes ≡ value_at levels bytes
  value_at-scalar list map = sym (value_at-kind ∙ value_from-scalar (value_at (levels - 1)) kind bytes list map)

-- The vertices of a feature are some of the document's, and no more.
use Rattle.std.proofs.Common.{◌≡◌, ◌≤◌, ◌<◌, ◌+◌, ◌==◌, ℕ, zero, suc, Bool, true, false, List, [], ◌∷◌, Some, length, map, get_or, refl, sym, ap, subst, ◌∙◌, arith, inl, inr, pos}
use Rattle.std.proofs.Math.ListN.{get_or-map}
use Rattle.std.proofs.lemmas.Bool.{eqb-true, eqb-false}
use Rattle.std.proofs.lemmas.List.{get_or_default, length-map}
use Rattle.std.proofs.lemmas.List.Elements.{Contains-append_right}
use Rattle.std.proofs.lemmas.Map.Steps.{le-length_from_below}
use Rattle.std.proofs.lemmas.Option.{slice_get-get_or, slice_get_within}
use Rattle.std.specs.List.{All, Contains, slice_get}
use Rattle.std.proofs.Math.Dec.{eqb}
use Rattle.std.proofs.lemmas.Bool.Decides.{nat_tests}
use Rattle.std.proofs.lemmas.List.Folds.{list_any-from_Any}
use Rattle.std.specs.List.{list_any}
use Rattle.city_json.specs.Tree.{Tree, ItemTrees, no_items, item}
use Rattle.city_grid.specs.Axes.{IsInRange, Triple}
use Rattle.city_feature.specs.Feature.{AreVertices, item_count}
use Rattle.city_families.specs.Boundaries.{uses}
use Rattle.city_families.specs.Points.{CountsUp, SamePoints}

-- ---- numbers that count up
grows : (next end : ℕ) (ks : List ℕ) → CountsUp next ks end → next ≤ end
grows next end [] counts = omega (arith, counts)
grows next end (k ∷ ks) (inl c) = grows next end ks c.1
grows next end (k ∷ ks) (inr c) = let more = grows (next + 1) end ks c.1 in omega (arith, more)

all_below : (next end : ℕ) (ks : List ℕ) → CountsUp next ks end → (i : ℕ) (d : ℕ) → i < length ks → get_or ks i d < end
all_below next end [] counts i d within = absurd (omega (arith, within))
all_below next end (k ∷ ks) (inl c) zero d within = let more = grows next end ks c.1 in omega (arith, more, c.0)
all_below next end (k ∷ ks) (inr c) zero d within = let more = grows (next + 1) end ks c.1 in omega (arith, more, c.0)
all_below next end (k ∷ ks) (inl c) (suc i) d within = all_below next end ks c.1 i d (omega (arith, within))
all_below next end (k ∷ ks) (inr c) (suc i) d within = all_below (next + 1) end ks c.1 i d (omega (arith, within))

later : (k i : ℕ) (ks : List ℕ) → Contains ks i → Contains (k ∷ ks) i
later k i ks c = Contains-append_right (k ∷ []) ks i c

all_given : (next end : ℕ) (ks : List ℕ) → CountsUp next ks end → (i : ℕ) → next ≤ i → i < end → Contains ks i
all_given next end [] counts i low high = absurd (omega (arith, counts, low, high))
all_given next end (k ∷ ks) (inl c) i low high = later k i ks (all_given next end ks c.1 i low high)
all_given next end (k ∷ ks) (inr c) i low high =
    by (i == next) refl (λ above. all_given (next + 1) end ks c.1 i above high)
  where
    by : (b : Bool) → (i == next) ≡ b → (next + 1 ≤ i → Contains ks i) → Contains (k ∷ ks) i
    by true e others = let same = eqb-true i next e in (0, omega arith, c.0 ∙ sym same)
    by false e others = let apart = eqb-false i next e in later k i ks (others (omega (arith, apart, low)))

-- ---- vertices by their places
in_range : (items : ItemTrees) (ps : List Triple) (k : ℕ) (p : Triple) → AreVertices items ps → slice_get ps k ≡ Some p
    → IsInRange p
in_range no_items [] k p are is = none_there k is
  where
    none_there : (k : ℕ) → slice_get [] k ≡ Some p → IsInRange p
    none_there zero is = cc is
    none_there (suc k) is = cc is
in_range no_items (q ∷ qs) k p are is = absurd are
in_range (item v vs) [] k p are is = absurd are
in_range (item v vs) (q ∷ qs) zero p are is = subst IsInRange (same is) are.1
  where
    same : Some q ≡ Some p → q ≡ p
    same e = cc
in_range (item v vs) (q ∷ qs) (suc k) p are is = in_range vs qs k p are.2 is

pub as_many : (items : ItemTrees) (ps : List Triple) → AreVertices items ps → item_count items ≡ length ps
as_many no_items [] are = refl
as_many no_items (p ∷ ps) are = absurd are
as_many (item v vs) [] are = absurd are
as_many (item v vs) (p ∷ ps) are = let e = as_many vs ps are.2 in omega (arith, e)

-- ---- labels of all places
abbrev labels : (ℕ → ℕ) → List Triple → ℕ → List ℕ
labels label [] at = []
labels label (p ∷ ps) at = label at ∷ labels label ps (at + 1)

labels_long : (label : ℕ → ℕ) (ps : List Triple) (at : ℕ) → length (labels label ps at) ≡ length ps
labels_long label [] at = refl
labels_long label (p ∷ ps) at = let e = labels_long label ps (at + 1) in omega (arith, e)

eqb_self : (n : ℕ) → eqb n n ≡ true
eqb_self n = grind (arith, nat_tests)

label_at : (label : ℕ → ℕ) (ps : List Triple) (at k d : ℕ) → k < length ps
    → get_or (labels label ps at) k d ≡ label (at + k)
label_at label [] at k d within = absurd (omega (arith, within))
label_at label (p ∷ ps) at zero d within = ap label (omega arith)
label_at label (p ∷ ps) at (suc k) d within =
    label_at label ps (at + 1) k d (omega (arith, within)) ∙ ap label (omega arith)

has_label : (label : ℕ → ℕ) (ps : List Triple) (k : ℕ) → k < length ps
    → list_any (eqb (label k)) (labels label ps 0) ≡ true
has_label label ps k within =
    list_any-from_Any (eqb (label k)) (labels label ps 0) (
      k,
      label k,
      omega (arith, within, labels_long label ps 0),
      label_at label ps 0 k (label k) within ∙ ap label (omega arith),
      eqb_self (label k),
    )

module _ (points own : List Triple) (chosen objects : List (List ℕ × Tree))
    (same : SamePoints points chosen own objects) where
  abbrev Labels : List ℕ
  Labels = map same.label (uses chosen)

  pub labels_below : (k : ℕ) → Contains (uses chosen) k → same.label k < length own
  labels_below k c =
      let here = all_below 0 (length own) Labels same.in_order c.0 (same.label k)
      (omega (arith, c.1, length-map (uses chosen) same.label)) in
      subst (λ n. n < length own) (get_or-map same.label (uses chosen) c.0 k ∙ ap same.label c.2) here

  -- each of the vertices has a number that the objects name
  use_of : (i : ℕ) → i < length own → (k : ℕ) × Contains (uses chosen) k × (same.label k ≡ i)
  use_of i within =
      let c = all_given 0 (length own) Labels same.in_order i (omega arith) within in
      let inside : c.0 < length (uses chosen) = omega (arith, c.1, length-map (uses chosen) same.label) in
      let k = get_or (uses chosen) c.0 0 in (
        k,
        (c.0, inside, get_or_default (uses chosen) c.0 k 0 inside),
        sym (get_or-map same.label (uses chosen) c.0 0) ∙ (get_or_default Labels c.0 (same.label 0) i c.1 ∙ c.2),
      )

  point_of : (i : ℕ) (d : Triple) → i < length own → (k : ℕ) × (same.label k ≡ i)
      × (slice_get points k ≡ Some (get_or own i d))
  point_of i d within =
      let used = use_of i within in
      let there : slice_get own (same.label used.0) ≡ Some (get_or own i d) =
      ap (slice_get own) used.2 ∙ slice_get-get_or own i d within in
      (used.0, used.2, sym (same.same used.0 used.1) ∙ there)

  pub own_in_range : (items : ItemTrees) → AreVertices items points → All IsInRange own
  own_in_range items are i d within =
      let point = point_of i d within in
      in_range items points point.0 (get_or own i d) are point.2

  pub no_more : length own ≤ length points
  no_more =
      let long = labels_long same.label points 0 in
      let fits = le-length_from_below (labels same.label points 0) (length own) each in
      omega (arith, long, fits)
    where
      nowhere : Triple
      nowhere = record { x = pos 0; y = pos 0; z = pos 0 }

      each : (q : ℕ) → q < length own → list_any (eqb q) (labels same.label points 0) ≡ true
      each q within =
          let point = point_of q nowhere within in
          let inside = slice_get_within points point.0 (get_or own q nowhere) point.2 in
          subst (λ n. list_any (eqb n) (labels same.label points 0) ≡ true) point.1
          (has_label same.label points point.0 inside)

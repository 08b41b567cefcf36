-- How the table of numbers grows.
use Rattle.std.proofs.Common.{◌≡◌, ◌≢◌, ◌<◌, ◌+◌, ◌++◌, inl, inr, ℕ, Bool, true, false, ◌==◌, List, [], ◌∷◌, length, map, sym, refl, ap, subst, ◌∙◌, arith, length-append, length-set, append_assoc, codes}
use Rattle.std.proofs.lemmas.Bool.{eqb-true, eqb-false}
use Rattle.std.proofs.lemmas.Grind.{flat_map-append}
use Rattle.std.proofs.lemmas.List.{get_or_append_left, get_or_push, get_or-set_same, get_or-set_other}
use Rattle.std.proofs.lemmas.List.Elements.{Contains-append_right, Contains-push_cases}
use Rattle.std.specs.List.{Contains, flat_map, slice_index, slice_set}
use Rattle.city_json.specs.Members.{member_of}
use Rattle.city_json.specs.Tree.{Tree}
use Rattle.city_families.specs.Boundaries.{address_boundary, boundaries, own_boundary}
use Rattle.city_families.specs.Items.{items_of}
use Rattle.city_families.specs.Leaves.{leaves}
use Rattle.city_families.specs.Numbered.{AreNumbered, HasNumber}
use Rattle.city_families.specs.Points.{CountsUp}

counts_old : (next k end : ℕ) (ks : List ℕ) → CountsUp next ks end → k < end → CountsUp next (ks ++ k ∷ []) end
counts_old next k end [] counts below = inl (omega (arith, counts), counts)
counts_old next k end (j ∷ ks) (inl c) below = inl (c.0, counts_old next k end ks c.1 below)
counts_old next k end (j ∷ ks) (inr c) below = inr (c.0, counts_old (next + 1) k end ks c.1 below)

counts_new : (next k end : ℕ) (ks : List ℕ) → CountsUp next ks end → k ≡ end → CountsUp next (ks ++ k ∷ []) (end + 1)
counts_new next k end [] counts is = inr (is ∙ sym counts, ap (λ n. n + 1) counts)
counts_new next k end (j ∷ ks) (inl c) is = inl (c.0, counts_new next k end ks c.1 is)
counts_new next k end (j ∷ ks) (inr c) is = inr (c.0, counts_new (next + 1) k end ks c.1 is)

same_labels : (f g : ℕ → ℕ) (ks : List ℕ) → ((k : ℕ) → Contains ks k → f k ≡ g k) → map f ks ≡ map g ks
same_labels f g [] agree = refl
same_labels f g (k ∷ ks) agree =
    let first : f k ≡ g k = agree k (0, omega arith, refl) in
    let others : map f ks ≡ map g ks = same_labels f g ks (λ j c. agree j (Contains-append_right (k ∷ []) ks j c)) in
    cc

pushed_label : (f : ℕ → ℕ) (ks : List ℕ) (k : ℕ) → map f (ks ++ k ∷ []) ≡ map f ks ++ f k ∷ []
pushed_label f [] k = refl
pushed_label f (j ∷ ks) k = ap (λ l. f j ∷ l) (pushed_label f ks k)

pub numbered_again : (uses table order : List ℕ) (v : ℕ) → AreNumbered uses table order → HasNumber table order v
    → AreNumbered (uses ++ v ∷ []) table order
numbered_again uses table order v all has = record {
  inside = all.inside;
  stands = all.stands;
  known = λ k c. elim (Contains-push_cases uses v k c)
      [ inl old ↦ all.known k old | inr e ↦ subst (HasNumber table order) e has ];
  in_order = rw (pushed_label (λ k. slice_index table k) uses v)
      (counts_old 0 (slice_index table v) (length order) (map (λ k. slice_index table k) uses) all.in_order has.0);
}

pub numbered_new : (uses table order : List ℕ) (v : ℕ) → AreNumbered uses table order → v < length table
    → (HasNumber table order v → ⊥) → AreNumbered (uses ++ v ∷ []) (slice_set table v (length order)) (order ++ v ∷ [])
numbered_new uses table order v all within hasnt = record {
  inside = λ i below. inside_at i (i == length order) refl below;
  stands = λ i below. stands_at i (i == length order) refl below;
  known = λ k c. elim (Contains-push_cases uses v k c)
      [ inl old ↦ known_old k old | inr e ↦ subst (HasNumber table' order') e known_new ];
  in_order = rw (pushed_label (λ k. slice_index table' k) uses v, more)
      (subst (λ ks. CountsUp 0 (ks ++ slice_index table' v ∷ []) (length order + 1))
      (same_labels (λ k. slice_index table k) (λ k. slice_index table' k) uses (λ k c. sym (other k (apart k c))))
      (counts_new 0 (slice_index table' v) (length order) (map (λ k. slice_index table k) uses) all.in_order here));
}
  where
    table' : List ℕ
    table' = slice_set table v (length order)

    order' : List ℕ
    order' = order ++ v ∷ []

    more : length order' ≡ length order + 1
    more = length-append order (v ∷ [])

    here : slice_index table' v ≡ length order
    here = get_or-set_same table v (length order) 0 within

    other : (k : ℕ) → k ≢ v → slice_index table' k ≡ slice_index table k
    other k apart = get_or-set_other table v k (length order) 0 apart

    apart : (k : ℕ) → Contains uses k → k ≢ v
    apart k c e = hasnt (subst (HasNumber table order) e (all.known k c))

    front : (i : ℕ) → i < length order → slice_index order' i ≡ slice_index order i
    front i below = get_or_append_left order (v ∷ []) 0 i below

    last : slice_index order' (length order) ≡ v
    last = get_or_push order v 0 (length order) refl

    inside_at : (i : ℕ) (b : Bool) → (i == length order) ≡ b → i < length order' → slice_index order' i < length table'
    inside_at i true e below = rw (eqb-true _ _ e, last) (omega (arith, within, length-set {A = ℕ}))
    inside_at i false e below = let less : i < length order = omega (arith, eqb-false _ _ e, more) in
        rw (front i less) (omega (arith, all.inside i less, length-set {A = ℕ}))

    named_apart : (i : ℕ) → i < length order → slice_index order i ≢ v
    named_apart i below e =
        let at : slice_index table v ≡ i = subst (λ n. slice_index table n ≡ i) e (all.stands i below) in
        hasnt (omega (arith, at), ap (slice_index order) at ∙ e)

    stands_at : (i : ℕ) (b : Bool) → (i == length order) ≡ b → i < length order'
        → slice_index table' (slice_index order' i) ≡ i
    stands_at i true e below = rw (eqb-true _ _ e, last) here
    stands_at i false e below = let less : i < length order = omega (arith, eqb-false _ _ e, more) in
        rw (front i less) (other (slice_index order i) (named_apart i less) ∙ all.stands i less)

    known_old : (k : ℕ) → Contains uses k → HasNumber table' order' k
    known_old k c =
        let has = all.known k c in
        let same = other k (apart k c) in
        (omega (arith, same, has.0, more), ap (slice_index order') same ∙ (front (slice_index table k) has.0 ∙ has.1))

    known_new : HasNumber table' order' v
    known_new = (omega (arith, here, more), ap (slice_index order') here ∙ last)

-- the vertices of an object's geometries, and after them those of its addresses
pub both_boundaries : (value : Tree) (geometries addresses : List Tree) (uses : List ℕ)
    → geometries ≡ items_of (member_of (codes "geometry") value)
    → addresses ≡ items_of (member_of (codes "address") value)
    → (uses ++ flat_map leaves (flat_map own_boundary geometries))
    ++ flat_map leaves (flat_map address_boundary addresses) ≡ uses ++ flat_map leaves (boundaries value)
both_boundaries value geometries addresses uses geometries_are addresses_are =
    let given = flat_map own_boundary (items_of (member_of (codes "geometry") value)) in
    let located = flat_map address_boundary (items_of (member_of (codes "address") value)) in
    rw (geometries_are, addresses_are) (append_assoc uses (flat_map leaves given) (flat_map leaves located)
    ∙ ap (λ l. uses ++ l) (sym (flat_map-append leaves given located)))

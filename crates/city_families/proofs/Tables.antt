-- What a sorted table of names tells.
use Rattle.std.proofs.Common.{◌≡◌, ◌≢◌, ◌+◌, ◌-◌, take, ◌<◌, ◌≤◌, ◌⊎◌, ◌++◌, inl, inr, ℕ, List, [], ◌∷◌, Some, length, get_or, map, length-append, sym, ap, subst, ◌∙◌, arith, Ordering, Less, Equal, Greater}
use Rattle.std.proofs.lemmas.Bool.{cases_lt}
use Rattle.std.proofs.lemmas.Cmp.{nat_list_cmp_total}
use Rattle.std.proofs.lemmas.List.Sorted.{searchable_from_sorted, All-permutation, Contains-permutation}
use Rattle.std.proofs.lemmas.List.Elements.{All-map, Contains-get_or}
use Rattle.std.proofs.lemmas.List.{get_or-map, length-map}
use Rattle.std.proofs.lemmas.Map.Text.{is_eq-slice_cmp}
use Rattle.std.proofs.lemmas.Option.{slice_get_within, same_Some}
use Rattle.std.proofs.Math.Seq.{take-append_seam}
use Rattle.std.proofs.lemmas.Slice.Eq.{bytes_eq-Decides}
use Rattle.std.specs.Borrow.{Bor}
use Rattle.std.specs.Cmp.{tied_itself}
use Rattle.std.specs.Cmp.Lexicographic.{slice_cmp}
use Rattle.std.specs.List.{Contains, HoldsAt, slice_get}
use Rattle.std.specs.List.Sorted.{IsPartitionPoint, IsNonDecreasingBy, IsPermutation, IsSortedBy}
use Rattle.std.specs.Ordering.{is_eq, is_lt, nat_cmp, ordering_index}
use Rattle.city_json.specs.Members.{names}
use Rattle.city_json.specs.declared.compacting.places.MemberPlace.{MemberPlace}
use Rattle.city_families.specs.Table.{AreFirst, IsTable, name_in, names_with, with_name, without_last}

abbrev pub by_bytes : List ℕ → List ℕ → Ordering
by_bytes = slice_cmp nat_cmp

pub equal_names : (x y : List ℕ) → by_bytes x y ≡ Equal → x ≡ y
equal_names x y e = (bytes_eq-Decides x y).0 (sym (is_eq-slice_cmp x y) ∙ ap is_eq e)

pub same_name : (x y : List ℕ) → x ≡ y → by_bytes x y ≡ Equal
same_name x y e = subst (λ z. by_bytes x z ≡ Equal) e (tied_itself nat_list_cmp_total x)

-- ---- a table of which the places alone are held
pub found_named : (names : List (List ℕ)) (text : List ℕ) (parts : List MemberPlace) (order : List ℕ) (name : List ℕ)
    (at d : ℕ) → IsTable names (names_with text parts order) → at < length order
    → HoldsAt (λ k. by_bytes (name_in text parts k) name ≡ Equal) order at
    → slice_get names (get_or order at d) ≡ Some name
found_named names text parts order name at d table within equal =
    let f : ℕ → Bor (List ℕ) × ℕ = with_name text parts in
    let same = get_or-map f order at d (f d) within in
    let here : at < length (map f order) = rw (length-map order f) within in
    let right = table.right at (f d) here in
    let is : slice_get names (get_or order at d) ≡ Some (name_in text parts (get_or order at d)) =
    subst (λ (pair : Bor (List ℕ) × ℕ). slice_get names pair.1 ≡ Some pair.0.now) same right in
    is ∙ ap Some (equal_names _ name (equal d))

less_as : (x y z w : Bor (List ℕ) × ℕ) → x ≡ y → z ≡ w
    → is_lt (by_bytes x.0.now z.0.now) ≡ is_lt (by_bytes y.0.now w.0.now)
less_as x y z w e g =
    ap (λ (p : Bor (List ℕ) × ℕ). is_lt (by_bytes p.0.now z.0.now)) e
    ∙ ap (λ (p : Bor (List ℕ) × ℕ). is_lt (by_bytes y.0.now p.0.now)) g

rises_in : (names : List (List ℕ)) (text : List ℕ) (parts : List MemberPlace) (order : List ℕ)
    → IsTable names (names_with text parts order)
    → IsSortedBy (λ x y. is_lt (by_bytes (name_in text parts x) (name_in text parts y))) order
rises_in names text parts order table k d low high =
    let f : ℕ → Bor (List ℕ) × ℕ = with_name text parts in
    let here : k + 1 < length (map f order) = rw (length-map order f) high in
    let up = table.rises k (f d) low here in
    let next = get_or-map f order (k + 1) d (f d) high in
    let this = get_or-map f order k d (f d) (omega (arith, high)) in
    less_as (f (get_or order (k + 1) d)) _ (f (get_or order k d)) _ (sym next) (sym this) ∙ up

pub not_named : (names : List (List ℕ)) (text : List ℕ) (parts : List MemberPlace) (order : List ℕ) (name : List ℕ)
    (at : ℕ) → IsTable names (names_with text parts order)
    → (IsNonDecreasingBy (λ k. ordering_index (by_bytes (name_in text parts k) name)) order
    → IsPartitionPoint (λ k. by_bytes (name_in text parts k) name ≡ Less)
    (λ k. by_bytes (name_in text parts k) name ≡ Greater) order at)
    → (k : ℕ) → slice_get names k ≢ Some name
not_named names text parts order name at table apart k is = by (cases_lt j at)
  where
    f : ℕ → Bor (List ℕ) × ℕ
    f = with_name text parts

    there : (pair : Bor (List ℕ) × ℕ) × Contains (map f order) pair × (pair.0.now ≡ name)
    there = table.whole k name is

    j : ℕ
    j = there.1.0

    inside : j < length order
    inside = rw (sym (length-map order f)) there.1.1

    found : f (get_or order j 0) ≡ there.0
    found = sym (get_or-map f order j 0 there.0 inside) ∙ there.1.2

    tie : by_bytes (name_in text parts (get_or order j 0)) name ≡ Equal
    tie = same_name _ name (ap (λ (p : Bor (List ℕ) × ℕ). p.0.now) found ∙ there.2)

    point : IsPartitionPoint (λ k. by_bytes (name_in text parts k) name ≡ Less)
        (λ k. by_bytes (name_in text parts k) name ≡ Greater) order at
    point = apart (searchable_from_sorted nat_list_cmp_total (name_in text parts) order name
        (rises_in names text parts order table))

    less_apart : Less ≢ Equal
    less_apart e = cc

    greater_apart : Greater ≢ Equal
    greater_apart e = cc

    by : (j < at) ⊎ (at ≤ j) → ⊥
    by (inl before) = less_apart (sym (point.0 j 0 (omega arith) before) ∙ tie)
    by (inr later) = greater_apart (sym (point.1 j 0 later inside) ∙ tie)

pub ordered_table : (names : List (List ℕ)) (text : List ℕ) (parts : List MemberPlace) (first order : List ℕ)
    → AreFirst (length parts) first → length names ≡ length parts
    → ((k : ℕ) → k < length parts → slice_get names k ≡ Some (name_in text parts k))
    → IsPermutation first order
    → IsSortedBy (λ x y. is_lt (by_bytes (name_in text parts x) (name_in text parts y))) order
    → IsTable names (names_with text parts order)
ordered_table names text parts first order all long here moved up = record {
  rises = λ k d low high.
      let inside : k + 1 < length order = rw (sym (length-map order f)) high in
      let next = get_or-map f order (k + 1) 0 d inside in
      let this = get_or-map f order k 0 d (omega (arith, inside)) in
      less_as _ (f (get_or order (k + 1) 0)) _ (f (get_or order k 0)) next this ∙ up k 0 low inside;
  right = All-map (λ (pair : Bor (List ℕ) × ℕ). slice_get names pair.1 ≡ Some pair.0.now) f order
      (All-permutation (λ k. slice_get names k ≡ Some (name_in text parts k)) first order moved
      (λ k d within.
      let same = all.1 k d (rw (sym all.0) within) in
      subst (λ n. slice_get names n ≡ Some (name_in text parts n)) (sym same) (here k (rw (sym all.0) within))));
  whole = λ k name is.
      let within : k < length parts = rw (sym long) (slice_get_within names k name is) in
      let held = Contains-permutation first order k moved (in_first k within) in
      let inside : held.0 < length order = held.1 in (
        f k,
        (
          held.0,
          rw (length-map order f) held.1,
          get_or-map f order held.0 k (f k) held.1 ∙ ap f held.2,
        ),
        same_Some _ name (sym (here k within) ∙ is),
      );
}
  where
    f : ℕ → Bor (List ℕ) × ℕ
    f = with_name text parts

    in_first : (k : ℕ) → k < length parts → Contains first k
    in_first k within = subst (Contains first) (all.1 k 0 within) (Contains-get_or first k 0 (rw all.0 within))

pub without_the_last : (bytes : List ℕ) (last : ℕ) → without_last (bytes ++ last ∷ []) ≡ bytes
without_the_last bytes last =
    let long : length (bytes ++ last ∷ []) - 1 - 0 ≡ length bytes = omega (arith, length-append bytes (last ∷ [])) in
    ap (λ n. take n (bytes ++ last ∷ [])) long ∙ take-append_seam bytes (last ∷ [])

-- What a sorted table of names tells.
use Rattle.std.proofs.Common.{◌≡◌, ◌≢◌, ◌<◌, ◌≤◌, ◌⊎◌, ◌++◌, inl, inr, ℕ, Bool, true, false, List, [], ◌∷◌, Some, length, get_or, map, ◌==◌, length-append, sym, refl, ap, subst, ◌∙◌, arith, Ordering, Less, Equal, Greater}
use Rattle.std.proofs.lemmas.Bool.{cases_lt}
use Rattle.std.proofs.lemmas.Cmp.{nat_list_cmp_total}
use Rattle.std.proofs.lemmas.List.Sorted.{searchable_from_sorted, All-permutation, Contains-permutation}
use Rattle.std.proofs.lemmas.List.Elements.{Contains-get_or}
use Rattle.std.proofs.lemmas.Bool.{eqb-true, eqb-false}
use Rattle.std.proofs.lemmas.List.{get_or_push, get_or_append_left}
use Rattle.std.proofs.lemmas.Option.{slice_get_within, same_Some}
use Rattle.std.specs.Borrow.{Bor}
use Rattle.std.specs.List.{Contains, HoldsAt, slice_get}
use Rattle.std.specs.List.Sorted.{IsPartitionPoint, IsNonDecreasingBy, IsPermutation, IsSorted}
use Rattle.std.specs.Ordering.{is_lt, nat_cmp, ordering_index, ordering_then}
use Rattle.city_json.specs.declared.json.Member.{Member}
use Rattle.city_json.specs.Members.{names}
use Rattle.city_json.specs.Tree.{members_tree, named_tree}
use Rattle.city_families.specs.Table.{IsTable}
use Rattle.city_families.proofs.Tables.{by_bytes, equal_names, same_name}

pub found_place : (names : List (List ℕ)) (pairs : List (Bor (List ℕ) × ℕ)) (name : List ℕ) (at : ℕ)
    (d : Bor (List ℕ) × ℕ) → IsTable names pairs → at < length pairs
    → HoldsAt (λ pair. by_bytes pair.0.now name ≡ Equal) pairs at → slice_get names (get_or pairs at d).1 ≡ Some name
found_place names pairs name at d table within equal = table.right at d within ∙ ap Some (equal_names _ name (equal d))

pub no_place : (names : List (List ℕ)) (pairs : List (Bor (List ℕ) × ℕ)) (name : List ℕ) (at : ℕ) → IsTable names pairs
    → (IsNonDecreasingBy (λ pair. ordering_index (by_bytes pair.0.now name)) pairs
    → IsPartitionPoint (λ pair. by_bytes pair.0.now name ≡ Less) (λ pair. by_bytes pair.0.now name ≡ Greater) pairs
    at)
    → (k : ℕ) → slice_get names k ≢ Some name
no_place names pairs name at table parts k is = by (cases_lt j at)
  where
    there : (pair : Bor (List ℕ) × ℕ) × Contains pairs pair × (pair.0.now ≡ name)
    there = table.whole k name is

    j : ℕ
    j = there.1.0

    tie : by_bytes (get_or pairs there.1.0 there.0).0.now name ≡ Equal
    tie = same_name _ name (ap (λ (p : Bor (List ℕ) × ℕ). p.0.now) there.1.2 ∙ there.2)

    point : IsPartitionPoint (λ pair. by_bytes pair.0.now name ≡ Less) (λ pair. by_bytes pair.0.now name ≡ Greater)
        pairs at
    point = parts (searchable_from_sorted nat_list_cmp_total (λ (p : Bor (List ℕ) × ℕ). p.0.now) pairs name table.rises)

    less_apart : Less ≢ Equal
    less_apart e = cc

    greater_apart : Greater ≢ Equal
    greater_apart e = cc

    by : (there.1.0 < at) ⊎ (at ≤ there.1.0) → ⊥
    by (inl before) = less_apart (sym (point.0 there.1.0 there.0 (omega arith) before) ∙ tie)
    by (inr later) = greater_apart (sym (point.1 there.1.0 there.0 later there.1.1) ∙ tie)

-- ---- how the table is made
abbrev pub pair_order : Bor (List ℕ) × ℕ → Bor (List ℕ) × ℕ → Ordering
pair_order x y = ordering_then (by_bytes x.0.now y.0.now) (nat_cmp x.1 y.1)

falls_later : (first second : Ordering) → is_lt (ordering_then first second) ≡ false → is_lt first ≡ false
falls_later Less second e = e
falls_later Equal second e = refl
falls_later Greater second e = refl

-- the pairs in the list's order
abbrev pub AreListed : List (List ℕ) → List (Bor (List ℕ) × ℕ) → Type 0
AreListed names pairs = (k : ℕ) (d : Bor (List ℕ) × ℕ) → k < length pairs → ((get_or pairs k d).1 ≡ k)
    × (slice_get names k ≡ Some (get_or pairs k d).0.now)

pub table_of_listed : (names : List (List ℕ)) (pairs sorted : List (Bor (List ℕ) × ℕ)) → AreListed names pairs
    → length pairs ≡ length names → IsPermutation pairs sorted → IsSorted pair_order sorted → IsTable names sorted
table_of_listed names pairs sorted listed long moved up = record {
  rises = λ k d low high. falls_later _ _ (up k d low high);
  right = All-permutation (λ pair. slice_get names pair.1 ≡ Some pair.0.now) pairs sorted moved
      (λ k d within. let here = listed k d within in
      subst (λ n. slice_get names n ≡ Some (get_or pairs k d).0.now) (sym here.0) here.1);
  whole = λ k name is.
      let within : k < length pairs = rw long (slice_get_within names k name is) in
      whole_at k name is within (get_or pairs k);
}
  where
    whole_at : (k : ℕ) (name : List ℕ) → slice_get names k ≡ Some name → k < length pairs
        → (Bor (List ℕ) × ℕ → Bor (List ℕ) × ℕ) → (pair : Bor (List ℕ) × ℕ) × Contains sorted pair × (pair.0.now ≡ name)
    whole_at k name is within f =
        let d : Bor (List ℕ) × ℕ = (record { ref_ptr = (0, 0); now = [] }, 0) in (
          get_or pairs k d,
          Contains-permutation pairs sorted (get_or pairs k d) moved
              (Contains-get_or pairs k d within),
          same_Some _ name (sym (listed k d within).1 ∙ is),
        )

pub names_map : (objects : List Member) → names (members_tree objects) ≡ map (λ m. (named_tree m).0) objects
names_map [] = refl
names_map (m ∷ ms) = ap (λ l. (named_tree m).0 ∷ l) (names_map ms)

pub listed_more : (all : List (List ℕ)) (pairs pairs' : List (Bor (List ℕ) × ℕ)) (name : Bor (List ℕ)) (at : ℕ)
    → AreListed all pairs → length pairs ≡ at → pairs' ≡ pairs ++ (name, at) ∷ [] → slice_get all at ≡ Some name.now
    → AreListed all pairs'
listed_more all pairs pairs' name at listed long is here = λ k d within. rw is (by k d (k == at) refl (rw is at within))
  where
    by : (k : ℕ) (d : Bor (List ℕ) × ℕ) (b : Bool) → (k == at) ≡ b → k < length (pairs ++ (name, at) ∷ [])
        → ((get_or (pairs ++ (name, at) ∷ []) k d).1 ≡ k)
        × (slice_get all k ≡ Some (get_or (pairs ++ (name, at) ∷ []) k d).0.now)
    by k d true e within =
        let same = eqb-true k at e in
        let last : get_or (pairs ++ (name, at) ∷ []) k d ≡ (name, at) =
        get_or_push pairs (name, at) d k (long ∙ sym same) in (
          ap (λ (p : Bor (List ℕ) × ℕ). p.1) last ∙ sym same,
          ap (slice_get all) same ∙ (here ∙ ap (λ (p : Bor (List ℕ) × ℕ). Some p.0.now) (sym last)),
        )
    by k d false e within =
        let less : k < length pairs = omega (arith, eqb-false k at e, length-append pairs ((name, at) ∷ []), long) in
        let front = get_or_append_left pairs ((name, at) ∷ []) d k less in
        rw front (listed k d less)

-- What is reached among identifiers is what is reached among places.
use Rattle.std.proofs.Common.{◌≡◌, ◌≢◌, ◌<◌, ◌++◌, inl, inr, ℕ, zero, suc, true, false, List, [], ◌∷◌, Some, length, get_or, sym, refl, ap, subst, ◌∙◌, arith, bytes_eq}
use Rattle.std.proofs.lemmas.Bool.{cases_Bool}
use Rattle.std.proofs.lemmas.List.Kept.{Contains-dedup_nat, Contains-from_dedup}
use Rattle.std.proofs.lemmas.List.Sorted.{Contains-permutation, IsPermutation-sym}
use Rattle.std.proofs.lemmas.Map.Keys.{IsStrictlyIncreasing-dedup}
use Rattle.std.specs.Ordering.{nat_cmp}
use Rattle.std.specs.List.Sorted.{IsPermutation, IsSorted, IsStrictlyIncreasing}
use Rattle.std.specs.List.{dedup}
use Rattle.std.specs.Prelude.{eqb, ◌↔◌}
use Rattle.std.proofs.lemmas.List.Elements.{Contains-get_or, Contains-append_left, Contains-push, Contains-push_cases}
use Rattle.std.proofs.lemmas.Option.{slice_get_within, slice_get-get_or, slice_get_cases, get_or_from_slice_get, same_Some}
use Rattle.std.proofs.lemmas.Slice.Eq.{bytes_eq-Decides}
use Rattle.std.specs.List.{Contains, slice_get}
use Rattle.city_json.specs.Fits.{HasDistinctNames, IsNewName}
use Rattle.city_json.specs.Members.{first_named, names}
use Rattle.city_json.specs.Tree.{Tree, member_trees, string, MemberTrees, no_members, member}
use Rattle.city_families.specs.CityObjects.{IsChild, IsReached, LacksChild, children}
use Rattle.city_families.specs.Places.{ArePlaced, IsFamily, IsGraph, ReachesPlace, name_at}
use Rattle.city_families.specs.Items.{values}
use Rattle.city_families.specs.Reach.{Reached, itself, onward}
use Rattle.city_families.specs.Search.{After, InRange}

long_values : (objects : MemberTrees) → length (values objects) ≡ length (names objects)
long_values no_members = refl
long_values (member name value others) = let e = long_values others in omega (arith, e)

-- a new name is none of those
new_apart : (name : List ℕ) (others : MemberTrees) (k : ℕ) → IsNewName name others
    → slice_get (names others) k ≢ Some name
new_apart name no_members k new is = cc
new_apart name (member other value others) zero new is = new.0 (sym (same_Some other name is))
new_apart name (member other value others) (suc k) new is = new_apart name others k new.1 is

test_same : (x : List ℕ) → bytes_eq x x ≡ true
test_same x = (bytes_eq-Decides x x).1 refl

apart_test : (x y : List ℕ) → x ≢ y → bytes_eq x y ≡ false
apart_test x y apart = elim (cases_Bool (bytes_eq x y)) [
  | inl e ↦ absurd (apart ((bytes_eq-Decides x y).0 e))
  | inr e ↦ e
]

-- where names differ, the object of a name is the one at its place
pub first_at : (objects : MemberTrees) (k : ℕ) (name : List ℕ) (value : Tree) → HasDistinctNames objects
    → slice_get (names objects) k ≡ Some name → slice_get (values objects) k ≡ Some value
    → first_named name objects ≡ Some value
first_at no_members k name value distinct is at = cc
first_at (member first v others) zero name value distinct is at = rw (same_Some first name is, test_same name) at
first_at (member first v others) (suc k) name value distinct is at =
    rw (apart_test first name (λ e. new_apart first others k distinct.0 (is ∙ ap Some (sym e))))
    (first_at others k name value distinct.1 is at)

pub has_name_at : (objects : MemberTrees) (k : ℕ) → k < length (names objects)
    → slice_get (names objects) k ≡ Some (name_at objects k)
has_name_at objects k inside = slice_get-get_or (names objects) k [] inside

-- where names differ, one stands at one place
one_place : (objects : MemberTrees) (j k : ℕ) (name : List ℕ) → HasDistinctNames objects
    → slice_get (names objects) j ≡ Some name → slice_get (names objects) k ≡ Some name → j ≡ k
one_place no_members j k name distinct at_j at_k = cc
one_place (member first v others) zero zero name distinct at_j at_k = refl
one_place (member first v others) zero (suc k) name distinct at_j at_k =
    absurd (new_apart first others k distinct.0 (at_k ∙ sym at_j))
one_place (member first v others) (suc j) zero name distinct at_j at_k =
    absurd (new_apart first others j distinct.0 (at_j ∙ sym at_k))
one_place (member first v others) (suc j) (suc k) name distinct at_j at_k =
    ap suc (one_place others j k name distinct.1 at_j at_k)

module _ (objects : MemberTrees) (graph : List (List ℕ)) (distinct : HasDistinctNames objects)
    (is_graph : IsGraph objects graph) where
  value_at : (a : ℕ) (name : List ℕ) → slice_get (names objects) a ≡ Some name → (value : Tree)
      × (slice_get (values objects) a ≡ Some value)
  value_at a name is = let within = slice_get_within (names objects) a name is in
      let d : Tree = string [] in
      (get_or (values objects) a d, slice_get-get_or (values objects) a d (omega (arith, within, long_values objects)))

  row_at : (a : ℕ) (name : List ℕ) → slice_get (names objects) a ≡ Some name → (row : List ℕ)
      → slice_get graph a ≡ Some row → (value : Tree) × (first_named name objects ≡ Some value)
      × ArePlaced (names objects) (children value) row
  row_at a name is row there =
      let v = value_at a name is in
      (v.0, first_at objects a name v.0 distinct is v.1, is_graph.rows a row v.0 there v.1)

  child_of_after : (a b : ℕ) (name : List ℕ) → slice_get (names objects) a ≡ Some name → After graph a b
      → (child : List ℕ) × (slice_get (names objects) b ≡ Some child) × IsChild objects name child
  child_of_after a b name is after =
      let row = row_at a name is after.0 after.1 in
      let placed = row.2.sound b after.2 in
      (placed.0, placed.1, (row.0, row.1, placed.2))

  after_of_child : (a : ℕ) (name child : List ℕ) → slice_get (names objects) a ≡ Some name → IsChild objects name child
      → (b : ℕ) × (slice_get (names objects) b ≡ Some child) × After graph a b
  after_of_child a name child is of =
      let within = slice_get_within (names objects) a name is in
      let v = value_at a name is in
      let same : v.0 ≡ of.0 = same_Some v.0 of.0 (sym (first_at objects a name v.0 distinct is v.1) ∙ of.1) in
      after_row a name child of (slice_get_or_row a (omega (arith, within, is_graph.long))) v.0 v.1 same
    where
      slice_get_or_row : (a : ℕ) → a < length graph → (row : List ℕ) × (slice_get graph a ≡ Some row)
      slice_get_or_row a within = elim ((slice_get_cases graph a).1)
          [ inl there ↦ (there.0, there.2) | inr past ↦ absurd (omega (arith, past.0)) ]

      after_row : (a : ℕ) (name child : List ℕ) (of : IsChild objects name child) → (row : List ℕ)
          × (slice_get graph a ≡ Some row) → (value : Tree) → slice_get (values objects) a ≡ Some value → value ≡ of.0
          → (b : ℕ) × (slice_get (names objects) b ≡ Some child) × After graph a b
      after_row a name child of row value there same =
          let placed = (is_graph.rows a row.0 value row.1 there).complete child
          (subst (λ v. Contains (children v) (string child)) (sym same) of.2) in
          (placed.0, placed.2, (row.0, row.1, placed.1))

  pub names_of_places : (root k : ℕ) (id : List ℕ) → slice_get (names objects) root ≡ Some id
      → Reached (After graph) root k → (name : List ℕ) × (slice_get (names objects) k ≡ Some name)
      × IsReached objects id name
  names_of_places root k id is itself = (id, is, itself)
  names_of_places root k id is (onward a b r after) =
      let there = names_of_places root a id is r in
      let child = child_of_after a b there.0 there.1 after in
      (child.0, child.1, onward there.0 child.0 there.2 child.2)

  pub places_of_names : (root : ℕ) (id name : List ℕ) → slice_get (names objects) root ≡ Some id
      → IsReached objects id name → (k : ℕ) × (slice_get (names objects) k ≡ Some name) × Reached (After graph) root k
  places_of_names root id name is itself = (root, is, itself)
  places_of_names root id name is (onward a b r child) =
      let there = places_of_names root id a is r in
      let next = after_of_child there.0 a b there.1 child in
      (next.0, next.1, onward there.0 next.0 there.2 next.2)

-- ---- how places are found

pub placed_more : (all : List (List ℕ)) (named : List Tree) (places : List ℕ) (name : List ℕ) (k : ℕ)
    → ArePlaced all named places → slice_get all k ≡ Some name
    → ArePlaced all (named ++ string name ∷ []) (places ++ k ∷ [])
placed_more all named places name k placed is = record {
  sound = λ b c. elim (Contains-push_cases places k b c) [
    | inl old ↦ let p = placed.sound b old in
        (p.0, p.1, Contains-append_left named (string name ∷ []) (string p.0) p.2)
    | inr e ↦ (name, subst (λ n. slice_get all n ≡ Some name) e is, Contains-push named (string name))
  ];
  complete = λ other c. elim (Contains-push_cases named (string name) (string other) c) [
    | inl old ↦ let p = placed.complete other old in (p.0, Contains-append_left places (k ∷ []) p.0 p.1, p.2)
    | inr e ↦ (k, Contains-push places k, is ∙ ap Some (same_text e))
  ];
}
  where
    same_text : {x y : List ℕ} → string x ≡ string y → x ≡ y
    same_text e = cc

pub names_pairs : (pairs : List (List ℕ × Tree)) → length (names (member_trees pairs)) ≡ length pairs
names_pairs [] = refl
names_pairs (p ∷ ps) = let e = names_pairs ps in omega (arith, e)

module _ (objects : MemberTrees) (graph : List (List ℕ)) (distinct : HasDistinctNames objects)
    (is_graph : IsGraph objects graph) where
  pub graph_in_range : InRange graph (length graph)
  graph_in_range = λ a d within b e inside.
      let n : a < length (values objects) = omega (arith, within, is_graph.long, long_values objects) in
      let here : slice_get graph a ≡ Some (get_or graph a d) = slice_get-get_or graph a d within in
      let placed = is_graph.rows a (get_or graph a d) (get_or (values objects) a (string [])) here
      (slice_get-get_or (values objects) a (string []) n) in
      let named = placed.sound (get_or (get_or graph a d) b e)
      (Contains-get_or (get_or graph a d) b e inside) in
      omega (
        arith,
        slice_get_within (names objects) (get_or (get_or graph a d) b e) named.0 named.1,
        is_graph.long,
      )

  -- the one_object at a place is reached exactly where the place is
  pub reached_at : (root k : ℕ) → root < length (names objects) → k < length (names objects)
      → Reached (After graph) root k ↔ ReachesPlace objects root k
  reached_at root k root_in k_in = (
    λ far.
        let there = names_of_places objects graph distinct is_graph root k (name_at objects root)
        (has_name_at objects root root_in) far in
        subst (IsReached objects (name_at objects root))
        (same_Some there.0 (name_at objects k) (sym there.1 ∙ has_name_at objects k k_in)) there.2,
    λ far.
        let there = places_of_names objects graph distinct is_graph root (name_at objects root) (name_at objects k)
        (has_name_at objects root root_in) far in
        subst (Reached (After graph) root) (one_place objects there.0 k (name_at objects k) distinct there.1
        (has_name_at objects k k_in)) there.2,
  )

  pub family_is : (root : ℕ) (found sorted places : List ℕ) → root < length graph
      → ((k : ℕ) → Contains found k ↔ Reached (After graph) root k) → IsPermutation found sorted
      → IsSorted nat_cmp sorted → places ≡ dedup eqb sorted → IsFamily objects root places
  family_is root found sorted places inside reach moved in_order kept = record {
    root_inside = omega (arith, inside, is_graph.long);
    rises = subst IsStrictlyIncreasing (sym kept) (IsStrictlyIncreasing-dedup sorted in_order);
    inside = λ i d below. within (get_or places i d) (Contains-get_or places i d below);
    reached = λ k k_in. (
      λ c. (reached_at root k (omega (arith, inside, is_graph.long)) k_in).0 (far k c),
      λ r. near k ((reached_at root k (omega (arith, inside, is_graph.long)) k_in).1 r),
    );
  }
    where
      far : (k : ℕ) → Contains places k → Reached (After graph) root k
      far k c =
          let in_sorted : Contains sorted k = Contains-from_dedup eqb sorted k (subst (λ l. Contains l k) kept c) in
          (reach k).0 (Contains-permutation sorted found k (IsPermutation-sym found sorted moved) in_sorted)

      near : (k : ℕ) → Reached (After graph) root k → Contains places k
      near k r = subst (λ l. Contains l k) (sym kept)
          (Contains-dedup_nat sorted k (Contains-permutation found sorted k moved ((reach k).1 r)))

      within : (k : ℕ) → Contains places k → k < length (names objects)
      within k c =
          let there = names_of_places objects graph distinct is_graph root k (name_at objects root)
          (has_name_at objects root (omega (arith, inside, is_graph.long))) (far k c) in
          slice_get_within (names objects) k there.0 there.1

-- ---- children that are not there

pub lacks_none : (objects : MemberTrees) (graph : List (List ℕ)) → IsGraph objects graph → LacksChild objects → ⊥
lacks_none objects graph is_graph lacks =
    let at = lacks.1.0 in
    let value_there : slice_get (values objects) at ≡ Some lacks.0 =
    slice_get-get_or (values objects) at lacks.0 lacks.1.1 ∙ ap Some lacks.1.2 in
    elim ((slice_get_cases graph at).1) [
      | inl row ↦
          let placed = is_graph.rows at row.0 lacks.0 row.2 value_there in
          let there = placed.complete lacks.2 lacks.3 in
          lacks.4 (
            there.0,
            slice_get_within (names objects) there.0 lacks.2 there.2,
            get_or_from_slice_get (names objects) there.0 lacks.2 lacks.2 there.2,
          )
      | inr past ↦ absurd (omega (arith, past.0, lacks.1.1, is_graph.long, long_values objects))
    ]

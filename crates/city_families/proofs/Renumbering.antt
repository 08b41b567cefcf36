-- What the table gives for the leaves of a boundary is another number for each, where the boundaries are some.
use Rattle.std.proofs.Common.{◌≡◌, ◌<◌, ℕ, Bool, true, false, List, [], ◌∷◌, Option, Some, length, bytes_eq, refl, sym, ap, subst, ◌∙◌, arith, ◌^◌, inl, inr}
use Rattle.std.proofs.lemmas.Bool.{cases_Bool}
use Rattle.std.specs.Prelude.{codes}
use Rattle.std.proofs.lemmas.Slice.Eq.{bytes_eq-Decides}
use Rattle.std.proofs.lemmas.Fmt.{decimal_is_IsNumeral}
use Rattle.std.specs.Fmt.{decimal}
use Rattle.std.specs.List.{AllByRecursion, slice_index}
use Rattle.std.specs.Str.Parse.{digits_value}
use Rattle.city_json.specs.Fits.{AreDistinctItems, HasDistinctNames, IsDistinct, IsNewName}
use Rattle.city_json.specs.Members.{first_named, member_of}
use Rattle.city_json.specs.Tree.{Tree, null, boolean, number, string, array, object, ItemTrees, no_items, item, MemberTrees, no_members, member}
use Rattle.city_json.proofs.NamedMembers.{distinct_named}
use Rattle.city_families.specs.Boundaries.{IsAddress, IsBounded, IsGeometry, changed_items, changed_members, in_member, own_boundary, relabelled_addresses, relabelled_boundary, relabelled_geometries, relabelled_object, relabelled_objects}
use Rattle.city_families.specs.Items.{item_list, items_of}
use Rattle.city_families.specs.Leaves.{AreNested, IsBoundary, IsIndex, IsNested, relabelled, relabelled_items, renumbered}
use Rattle.city_families.specs.Relabelling.{own_text}
use Rattle.city_families.proofs.Indices.{own_of_index}

cons_item : (v w : Tree) (vs ws : ItemTrees) → v ≡ w → vs ≡ ws → item v vs ≡ item w ws
cons_item v w vs ws e es = cc

leaf : (table : List ℕ) (text : List ℕ) → length table < 2 ^ 64 → IsIndex (length table) text
    → own_text table text ≡ renumbered (λ k. slice_index table k) text
leaf table text small index =
    let value : digits_value 10 text ≡ index.0 =
    ap (digits_value 10) index.2 ∙ (decimal_is_IsNumeral index.0 (omega (arith, index.1, small))).1 in
    own_of_index table text index.0 index.1 index.2 (sym value) ∙ ap (λ k. decimal (slice_index table k)) (sym value)

mutual
  part : (table : List ℕ) (value : Tree) → length table < 2 ^ 64 → IsNested (length table) value
      → relabelled (own_text table) value ≡ relabelled (renumbered (λ k. slice_index table k)) value
  part table (number text) small is = ap number (leaf table text small is)
  part table (array items) small is = ap array (parts table items small is)
  part table null small is = refl
  part table (boolean b) small is = refl
  part table (string text) small is = refl
  part table (object inner) small is = refl

  parts : (table : List ℕ) (items : ItemTrees) → length table < 2 ^ 64 → AreNested (length table) items
      → relabelled_items (own_text table) items ≡ relabelled_items (renumbered (λ k. slice_index table k)) items
  parts table no_items small are = refl
  parts table (item value others) small are =
      cons_item _ _ _ _ (part table value small are.0) (parts table others small are.1)

boundary : (table : List ℕ) (value : Tree) → length table < 2 ^ 64 → IsBoundary (length table) value
    → relabelled (own_text table) value ≡ relabelled (renumbered (λ k. slice_index table k)) value
boundary table (array items) small is = ap array (parts table items small is)
boundary table null small is = refl
boundary table (boolean b) small is = refl
boundary table (number text) small is = absurd is
boundary table (string text) small is = refl
boundary table (object inner) small is = refl

-- ---- a member of that name is the first of it
no_change : (name : List ℕ) (f g : Tree → Tree) (ms : MemberTrees) → IsNewName name ms
    → changed_members name f ms ≡ changed_members name g ms
no_change name f g no_members new = refl
no_change name f g (member other v os) new = elim (cases_Bool (bytes_eq other name)) [
  | inl e ↦ absurd (new.0 (sym ((bytes_eq-Decides other name).0 e)))
  | inr e ↦ rw e (ap (member other v) (no_change name f g os new.1))
]

same_change : (name : List ℕ) (f g : Tree → Tree) (ms : MemberTrees) → HasDistinctNames ms
    → ((value : Tree) → first_named name ms ≡ Some value → f value ≡ g value)
    → changed_members name f ms ≡ changed_members name g ms
same_change name f g no_members distinct agree = refl
same_change name f g (member other v os) distinct agree =
    by (bytes_eq other name) refl (λ later. same_change name f g os distinct.1 later)
  where
    by : (b : Bool) → bytes_eq other name ≡ b
        → (((value : Tree) → first_named name os ≡ Some value → f value ≡ g value)
        → changed_members name f os ≡ changed_members name g os)
        → changed_members name f (member other v os) ≡ changed_members name g (member other v os)
    by true e later =
        let same : f v ≡ g v = agree v (rw e refl) in
        let others : changed_members name f os ≡ changed_members name g os =
        no_change name f g os (subst (λ n. IsNewName n os) ((bytes_eq-Decides other name).0 e) distinct.0) in
        rw (e, same) (ap (member other (g v)) others)
    by false e later = rw e (ap (member other v) (later (λ value is. agree value (rw e is))))

in_same : (name : List ℕ) (f g : Tree → Tree) (value : Tree) → IsDistinct value
    → ((inner : Tree) → member_of name value ≡ Some inner → f inner ≡ g inner)
    → in_member name f value ≡ in_member name g value
in_same name f g (object members) distinct agree = ap object (same_change name f g members distinct.0 agree)
in_same name f g null distinct agree = refl
in_same name f g (boolean b) distinct agree = refl
in_same name f g (number text) distinct agree = refl
in_same name f g (string text) distinct agree = refl
in_same name f g (array items) distinct agree = refl

items_same : (f g : Tree → Tree) (items : ItemTrees) → AllByRecursion (λ value. f value ≡ g value) (item_list items)
    → changed_items f items ≡ changed_items g items
items_same f g no_items agree = refl
items_same f g (item value others) agree = cons_item _ _ _ _ agree.0 (items_same f g others agree.1)

-- ---- what is in a distinct value is distinct
pub distinct_member : (name : List ℕ) (value inner : Tree) → IsDistinct value → member_of name value ≡ Some inner
    → IsDistinct inner
distinct_member name (object members) inner distinct is = distinct_named name members inner distinct.1 is
distinct_member name null inner distinct is = cc
distinct_member name (boolean b) inner distinct is = cc
distinct_member name (number text) inner distinct is = cc
distinct_member name (string text) inner distinct is = cc
distinct_member name (array items) inner distinct is = cc

-- the geometries are where they were when the addresses are changed
geometry_kept : (f : Tree → Tree) (members : MemberTrees)
    → first_named (codes "geometry") (changed_members (codes "address") f members)
    ≡ first_named (codes "geometry") members
geometry_kept f no_members = refl
geometry_kept f (member other v os) = elim (cases_Bool (bytes_eq other (codes "geometry"))) [
  | inl e ↦ let other_name : bytes_eq other (codes "address") ≡ false =
      ap (λ n. bytes_eq n (codes "address")) ((bytes_eq-Decides other (codes "geometry")).0 e) in
      rw (e, other_name) refl
  | inr e ↦ rw e (geometry_kept f os)
]

new_kept : (n name : List ℕ) (f : Tree → Tree) (ms : MemberTrees) → IsNewName n ms
    → IsNewName n (changed_members name f ms)
new_kept n name f no_members new = tt
new_kept n name f (member other v os) new = (new.0, new_kept n name f os new.1)

pub distinct_kept : (name : List ℕ) (f : Tree → Tree) (ms : MemberTrees) → HasDistinctNames ms
    → HasDistinctNames (changed_members name f ms)
distinct_kept name f no_members distinct = tt
distinct_kept name f (member other v os) distinct =
    (new_kept other name f os distinct.0, distinct_kept name f os distinct.1)

module _ (table : List ℕ) (small : length table < 2 ^ 64) where
  -- a geometry or a location
  in_boundary : (value : Tree) → IsDistinct value → AllByRecursion (IsBoundary (length table)) (own_boundary value)
      → relabelled_boundary (own_text table) value ≡ relabelled_boundary (renumbered (λ k. slice_index table k)) value
  in_boundary value distinct all = in_same (codes "boundaries") (relabelled (own_text table))
      (relabelled (renumbered (λ k. slice_index table k))) value distinct
      (λ inner is. boundary table inner small (own inner is))
    where
      own : (inner : Tree) → member_of (codes "boundaries") value ≡ Some inner → IsBoundary (length table) inner
      own inner is = (rw is at all).0

  geometry_items : (items : ItemTrees) → AreDistinctItems items
      → AllByRecursion (IsGeometry (length table)) (item_list items)
      → AllByRecursion (λ value. relabelled_boundary (own_text table) value
      ≡ relabelled_boundary (renumbered (λ k. slice_index table k)) value) (item_list items)
  geometry_items no_items distinct all = tt
  geometry_items (item value others) distinct all =
      (in_boundary value distinct.0 all.0.1, geometry_items others distinct.1 all.1)

  geometries : (there : Option Tree) (value : Tree) → there ≡ Some value → IsDistinct value
      → AllByRecursion (IsGeometry (length table)) (items_of there)
      → relabelled_geometries (own_text table) value
      ≡ relabelled_geometries (renumbered (λ k. slice_index table k)) value
  geometries there (array items) is distinct all =
      ap array (items_same _ _ items (geometry_items items distinct (rw is at all)))
  geometries there null is distinct all = refl
  geometries there (boolean b) is distinct all = refl
  geometries there (number text) is distinct all = refl
  geometries there (string text) is distinct all = refl
  geometries there (object inner) is distinct all = refl

  in_address : (value : Tree) → IsDistinct value → IsAddress (length table) value
      → in_member (codes "location") (relabelled_boundary (own_text table)) value
      ≡ in_member (codes "location") (relabelled_boundary (renumbered (λ k. slice_index table k))) value
  in_address value distinct all = in_same (codes "location") (relabelled_boundary (own_text table))
      (relabelled_boundary (renumbered (λ k. slice_index table k))) value distinct
      (λ inner is. in_boundary inner (distinct_member (codes "location") value inner distinct is) (rw is at all))

  address_items : (items : ItemTrees) → AreDistinctItems items
      → AllByRecursion (IsAddress (length table)) (item_list items)
      → AllByRecursion (λ value. in_member (codes "location") (relabelled_boundary (own_text table)) value
      ≡ in_member (codes "location") (relabelled_boundary (renumbered (λ k. slice_index table k))) value)
      (item_list items)
  address_items no_items distinct all = tt
  address_items (item value others) distinct all =
      (in_address value distinct.0 all.0, address_items others distinct.1 all.1)

  addresses : (there : Option Tree) (value : Tree) → there ≡ Some value → IsDistinct value
      → AllByRecursion (IsAddress (length table)) (items_of there)
      → relabelled_addresses (own_text table) value ≡ relabelled_addresses (renumbered (λ k. slice_index table k)) value
  addresses there (array items) is distinct all =
      ap array (items_same _ _ items (address_items items distinct (rw is at all)))
  addresses there null is distinct all = refl
  addresses there (boolean b) is distinct all = refl
  addresses there (number text) is distinct all = refl
  addresses there (string text) is distinct all = refl
  addresses there (object inner) is distinct all = refl

  object_same : (value : Tree) → IsDistinct value → IsBounded (length table) value
      → relabelled_object (own_text table) value ≡ relabelled_object (renumbered (λ k. slice_index table k)) value
  object_same (object members) distinct bounded =
      ap object (ap (λ ms. changed_members (codes "geometry") (relabelled_geometries (own_text table)) ms) address
      ∙ geometry)
    where
      address : changed_members (codes "address") (relabelled_addresses (own_text table)) members
          ≡ changed_members (codes "address") (relabelled_addresses (renumbered (λ k. slice_index table k))) members
      address = same_change (codes "address") (relabelled_addresses (own_text table))
          (relabelled_addresses (renumbered (λ k. slice_index table k))) members distinct.0
          (λ value is. addresses (first_named (codes "address") members) value is
          (distinct_named (codes "address") members value distinct.1 is) bounded.2)

      others : MemberTrees
      others = changed_members (codes "address") (relabelled_addresses (renumbered (λ k. slice_index table k))) members

      agree : (value : Tree) → first_named (codes "geometry") others ≡ Some value
          → relabelled_geometries (own_text table) value
          ≡ relabelled_geometries (renumbered (λ k. slice_index table k)) value
      agree value is =
          let own : first_named (codes "geometry") members ≡ Some value =
          sym (geometry_kept (relabelled_addresses (renumbered (λ k. slice_index table k))) members) ∙ is in
          geometries (first_named (codes "geometry") members) value own
          (distinct_named (codes "geometry") members value distinct.1 own) bounded.1

      geometry : changed_members (codes "geometry") (relabelled_geometries (own_text table)) others
          ≡ changed_members (codes "geometry") (relabelled_geometries (renumbered (λ k. slice_index table k))) others
      geometry = same_change (codes "geometry") (relabelled_geometries (own_text table))
          (relabelled_geometries (renumbered (λ k. slice_index table k))) others
          (distinct_kept (codes "address") (relabelled_addresses (renumbered (λ k. slice_index table k))) members
          distinct.0) agree
  object_same null distinct bounded = refl
  object_same (boolean b) distinct bounded = refl
  object_same (number text) distinct bounded = refl
  object_same (string text) distinct bounded = refl
  object_same (array items) distinct bounded = refl

  pub objects_same : (objects : List (List ℕ × Tree)) → AllByRecursion (λ named. IsDistinct named.1) objects
      → AllByRecursion (λ named. IsBounded (length table) named.1) objects
      → relabelled_objects (own_text table) objects ≡ relabelled_objects (renumbered (λ k. slice_index table k)) objects
  objects_same [] distinct bounded = refl
  objects_same (named ∷ others) distinct bounded =
      let first : relabelled_object (own_text table) named.1
      ≡ relabelled_object (renumbered (λ k. slice_index table k)) named.1 =
      object_same named.1 distinct.0 bounded.0 in
      let rest : relabelled_objects (own_text table) others
      ≡ relabelled_objects (renumbered (λ k. slice_index table k)) others =
      objects_same others distinct.1 bounded.1 in
      rw (first, rest) refl

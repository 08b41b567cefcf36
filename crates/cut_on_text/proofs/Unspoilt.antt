-- Objects with other numbers at the leaves of their boundaries can be written and fit as before.
use Rattle.std.proofs.Common.{◌≡◌, ◌≤◌, ℕ, max, Bool, true, false, List, [], ◌∷◌, ◌++◌, Some, bytes_eq, if◌then◌else◌, refl, sym, ap, subst, ◌∙◌, arith, inl, inr}
use Rattle.std.proofs.lemmas.Bool.{cases_Bool}
use Rattle.std.proofs.Math.Nat.{le-max_left, le-max_right, max-le}
use Rattle.std.proofs.lemmas.Grind.{flat_map-append}
use Rattle.std.proofs.lemmas.List.Elements.{Contains-append_left, Contains-append_right}
use Rattle.std.proofs.lemmas.Slice.Eq.{bytes_eq-Decides}
use Rattle.std.specs.Fmt.{decimal}
use Rattle.std.specs.List.{Contains, flat_map}
use Rattle.std.specs.Option.{option_to_list}
use Rattle.std.specs.Prelude.{codes}
use Rattle.std.specs.Str.Parse.{digits_value}
use Rattle.city_json.specs.Fits.{AreDistinctItems, AreDistinctMembers, HasDistinctNames, IsDistinct, IsNewName, depth, items_depth, members_depth}
use Rattle.city_json.specs.Members.{first_named, member_of}
use Rattle.city_json.specs.Number.{IsNumber}
use Rattle.city_json.specs.Tree.{Tree, null, boolean, number, string, array, object, ItemTrees, no_items, item, MemberTrees, no_members, member, member_trees}
use Rattle.city_json.specs.Writable.{AreWritableItems, AreWritableMembers, IsWritable}
use Rattle.city_families.specs.Boundaries.{address_boundary, boundaries, changed_items, changed_members, in_items, in_member, located, own_boundary, relabelled_addresses, relabelled_boundary, relabelled_geometries, relabelled_object, relabelled_objects, uses}
use Rattle.city_families.specs.Cut.{AreThose}
use Rattle.city_families.specs.Items.{item_list, items_of}
use Rattle.city_families.specs.Leaves.{item_leaves, leaves, relabelled, relabelled_items, renumbered}

pub max_grows : (a b c d : ℕ) → a ≤ c → b ≤ d → max a b ≤ max c d
max_grows a b c d first second =
    let left = le-max_left c d in
    let right = le-max_right c d in
    max-le {a = a} {b = b} {k = max c d} (omega (arith, first, left)) (omega (arith, second, right))

-- a value came from another, and is no worse
abbrev pub Keeps : Tree → Tree → Type 0
Keeps value new = IsDistinct value → (IsWritable value → IsWritable new) × IsDistinct new × (depth new ≤ depth value)

abbrev pub KeepsItems : ItemTrees → ItemTrees → Type 0
KeepsItems items new = AreDistinctItems items → (AreWritableItems items → AreWritableItems new) × AreDistinctItems new
    × (items_depth new ≤ items_depth items)

abbrev pub KeepsMembers : MemberTrees → MemberTrees → Type 0
KeepsMembers members new =
    HasDistinctNames members × AreDistinctMembers members
    → (AreWritableMembers members → AreWritableMembers new) × (HasDistinctNames new × AreDistinctMembers new)
    × (members_depth new ≤ members_depth members)

abbrev pub AllOf : (ℕ → Type 0) → List ℕ → Type 0
AllOf P ks = (k : ℕ) → Contains ks k → P k

unchanged : (value : Tree) → Keeps value value
unchanged value distinct = (λ w. w, distinct, omega arith)

and_then : (a b c : Tree) → Keeps a b → Keeps b c → Keeps a c
and_then a b c first second distinct =
    let one = first distinct in
    let two = second one.1 in
    (λ w. two.0 (one.0 w), two.1, omega (arith, one.2, two.2))

item_kept : (v w : Tree) (vs ws : ItemTrees) → Keeps v w → KeepsItems vs ws → KeepsItems (item v vs) (item w ws)
item_kept v w vs ws one more distinct =
    let first = one distinct.0 in
    let others = more distinct.1 in (
      λ all. (first.0 all.0, others.0 all.1),
      (first.1, others.1),
      max_grows (depth w) (items_depth ws) (depth v) (items_depth vs) first.2 others.2,
    )

array_kept : (vs ws : ItemTrees) → KeepsItems vs ws → Keeps (array vs) (array ws)
array_kept vs ws kept distinct =
    let all = kept distinct in
    (all.0, all.1, omega (arith, all.2))

object_kept : (vs ws : MemberTrees) → KeepsMembers vs ws → Keeps (object vs) (object ws)
object_kept vs ws kept distinct =
    let all = kept distinct in
    (all.0, all.1, omega (arith, all.2))

-- ---- a member of a name
new_name : (n name : List ℕ) (f : Tree → Tree) (ms : MemberTrees) → IsNewName n ms
    → IsNewName n (changed_members name f ms)
new_name n name f no_members new = tt
new_name n name f (member other v os) new = (new.0, new_name n name f os new.1)

none_named : (name : List ℕ) (ms : MemberTrees) (w : Tree) → IsNewName name ms → first_named name ms ≡ Some w → ⊥
none_named name no_members w new is = cc is
none_named name (member other v os) w new is = by (bytes_eq other name) refl (λ later. none_named name os w new.1 later)
  where
    by : (b : Bool) → bytes_eq other name ≡ b → (first_named name os ≡ Some w → ⊥) → ⊥
    by true e others = new.0 (sym ((bytes_eq-Decides other name).0 e))
    by false e others = others (rw e at is)

member_kept : (n : List ℕ) (v w : Tree) (vs ws : MemberTrees) → Keeps v w → KeepsMembers vs ws
    → (IsNewName n vs → IsNewName n ws) → KeepsMembers (member n v vs) (member n w ws)
member_kept n v w vs ws one more names distinct =
    let first = one distinct.1.0 in
    let others = more (distinct.0.1, distinct.1.1) in (
      λ all. (all.0, first.0 all.1, others.0 all.2),
      ((names distinct.0.0, others.1.0), (first.1, others.1.1)),
      max_grows (depth w) (members_depth ws) (depth v) (members_depth vs) first.2 others.2,
    )

members_kept : (name : List ℕ) (f : Tree → Tree) (ms : MemberTrees) → HasDistinctNames ms
    → ((w : Tree) → first_named name ms ≡ Some w → Keeps w (f w)) → KeepsMembers ms (changed_members name f ms)
members_kept name f no_members names kept distinct = (λ w. w, (tt, tt), omega arith)
members_kept name f (member other v os) names kept distinct =
    by (bytes_eq other name) refl (λ each. members_kept name f os names.1 each)
  where
    by : (b : Bool) → bytes_eq other name ≡ b
        → (((w : Tree) → first_named name os ≡ Some w → Keeps w (f w)) → KeepsMembers os (changed_members name f os))
        → (AreWritableMembers (member other v os) → AreWritableMembers (changed_members name f (member other v os)))
        × (HasDistinctNames (changed_members name f (member other v os))
        × AreDistinctMembers (changed_members name f (member other v os)))
        × (members_depth (changed_members name f (member other v os)) ≤ members_depth (member other v os))
    by true e more =
        let same : other ≡ name = (bytes_eq-Decides other name).0 e in
        let others : KeepsMembers os (changed_members name f os) =
        more (λ w is. absurd (none_named name os w (subst (λ n. IsNewName n os) same names.0) is)) in
        let first : Keeps v (f v) = kept v (rw e refl) in
        rw e (member_kept other v (f v) os (changed_members name f os) first others (new_name other name f os) distinct)
    by false e more =
        let others : KeepsMembers os (changed_members name f os) = more (λ w is. kept w (rw e is)) in
        rw e (member_kept other v v os (changed_members name f os) (unchanged v) others (new_name other name f os)
        distinct)

in_member_kept : (name : List ℕ) (f : Tree → Tree) (value : Tree)
    → ((w : Tree) → member_of name value ≡ Some w → Keeps w (f w)) → Keeps value (in_member name f value)
in_member_kept name f (object ms) kept distinct =
    object_kept ms (changed_members name f ms) (members_kept name f ms distinct.0 kept) distinct
in_member_kept name f null kept distinct = unchanged null distinct
in_member_kept name f (boolean b) kept distinct = unchanged (boolean b) distinct
in_member_kept name f (number text) kept distinct = unchanged (number text) distinct
in_member_kept name f (string text) kept distinct = unchanged (string text) distinct
in_member_kept name f (array items) kept distinct = unchanged (array items) distinct

other_named : (m n : List ℕ) (f : Tree → Tree) (ms : MemberTrees) → bytes_eq m n ≡ false
    → first_named n (changed_members m f ms) ≡ first_named n ms
other_named m n f no_members apart = refl
other_named m n f (member other v os) apart = elim (cases_Bool (bytes_eq other m)) [
  | inl e ↦ let differs : bytes_eq other n ≡ false = ap (λ l. bytes_eq l n) ((bytes_eq-Decides other m).0 e) ∙ apart in
      rw (e, differs) (other_named m n f os apart)
  | inr e ↦ rw e (ap (λ x. if bytes_eq other n then Some v else x) (other_named m n f os apart))
]

other_member : (m n : List ℕ) (f : Tree → Tree) (value : Tree) → bytes_eq m n ≡ false
    → member_of n (in_member m f value) ≡ member_of n value
other_member m n f (object ms) apart = other_named m n f ms apart
other_member m n f null apart = refl
other_member m n f (boolean b) apart = refl
other_member m n f (number text) apart = refl
other_member m n f (string text) apart = refl
other_member m n f (array items) apart = refl

module _ (label : ℕ → ℕ) where
  -- the number that is given for this one can be written
  abbrev pub HasText : ℕ → Type 0
  HasText k = IsNumber (decimal (label k))

  abbrev change : List ℕ → List ℕ
  change = renumbered label

  -- ---- boundaries
  mutual
    part_kept : (value : Tree) → AllOf HasText (leaves value) → Keeps value (relabelled change value)
    part_kept (number text) all distinct = (λ w. all (digits_value 10 text) (0, omega arith, refl), tt, omega arith)
    part_kept (array items) all distinct = array_kept items (relabelled_items change items) (parts_kept items all)
        distinct
    part_kept null all distinct = unchanged null distinct
    part_kept (boolean b) all distinct = unchanged (boolean b) distinct
    part_kept (string text) all distinct = unchanged (string text) distinct
    part_kept (object ms) all distinct = unchanged (object ms) distinct

    parts_kept : (items : ItemTrees) → AllOf HasText (item_leaves items)
        → KeepsItems items (relabelled_items change items)
    parts_kept no_items all distinct = (λ w. w, tt, omega arith)
    parts_kept (item value others) all distinct =
        item_kept value (relabelled change value) others (relabelled_items change others)
        (part_kept value (λ k c. all k (Contains-append_left (leaves value) (item_leaves others) k c)))
        (parts_kept others (λ k c. all k (Contains-append_right (leaves value) (item_leaves others) k c))) distinct

  -- the leaves of what has these boundaries
  abbrev AllIn : List Tree → Type 0
  AllIn values = AllOf HasText (flat_map leaves values)

  boundary_kept : (value : Tree) → AllIn (own_boundary value) → Keeps value (relabelled_boundary change value)
  boundary_kept value all = in_member_kept (codes "boundaries") (relabelled change) value here
    where
      here : (w : Tree) → member_of (codes "boundaries") value ≡ Some w → Keeps w (relabelled change w)
      here w is = part_kept w (λ k c. all k (subst (λ o. Contains (flat_map leaves (option_to_list o)) k) (sym is)
          (Contains-append_left (leaves w) [] k c)))

  address_kept : (value : Tree) → AllIn (address_boundary value)
      → Keeps value (in_member (codes "location") (relabelled_boundary change) value)
  address_kept value all = in_member_kept (codes "location") (relabelled_boundary change) value here
    where
      here : (w : Tree) → member_of (codes "location") value ≡ Some w → Keeps w (relabelled_boundary change w)
      here w is = boundary_kept w (λ k c. all k (subst (λ o. Contains (flat_map leaves (located o)) k) (sym is) c))

  module _ (own : Tree → List Tree) (f : Tree → Tree)
      (each : (value : Tree) → AllIn (own value) → Keeps value (f value)) where
    items_kept : (items : ItemTrees) → AllIn (flat_map own (item_list items)) → KeepsItems items (changed_items f items)
    items_kept no_items all distinct = (λ w. w, tt, omega arith)
    items_kept (item value others) all distinct =
        let parts = flat_map-append leaves (own value) (flat_map own (item_list others)) in
        item_kept value (f value) others (changed_items f others)
        (each value (λ k c. all k (subst (λ l. Contains l k) (sym parts) (Contains-append_left _ _ k c))))
        (items_kept others (λ k c. all k (subst (λ l. Contains l k) (sym parts)
        (Contains-append_right (flat_map leaves (own value)) _ k c)))) distinct

    in_items_kept : (value : Tree) → AllIn (flat_map own (items_of (Some value))) → Keeps value (in_items f value)
    in_items_kept (array items) all = array_kept items (changed_items f items) (items_kept items all)
    in_items_kept null all = unchanged null
    in_items_kept (boolean b) all = unchanged (boolean b)
    in_items_kept (number text) all = unchanged (number text)
    in_items_kept (string text) all = unchanged (string text)
    in_items_kept (object ms) all = unchanged (object ms)

  object_relabelled : (value : Tree) → AllIn (boundaries value) → Keeps value (relabelled_object change value)
  object_relabelled value all =
      and_then value middle (relabelled_object change value)
      (in_member_kept (codes "address") (relabelled_addresses change) value second)
      (in_member_kept (codes "geometry") (relabelled_geometries change) middle first)
    where
      middle : Tree
      middle = in_member (codes "address") (relabelled_addresses change) value

      geometries : List Tree
      geometries = flat_map own_boundary (items_of (member_of (codes "geometry") value))

      addresses : List Tree
      addresses = flat_map address_boundary (items_of (member_of (codes "address") value))

      both : flat_map leaves (boundaries value) ≡ flat_map leaves geometries ++ flat_map leaves addresses
      both = flat_map-append leaves geometries addresses

      first : (w : Tree) → member_of (codes "geometry") middle ≡ Some w → Keeps w (relabelled_geometries change w)
      first w is =
          let there : member_of (codes "geometry") value ≡ Some w =
          sym (other_member (codes "address") (codes "geometry") (relabelled_addresses change) value refl) ∙ is in
          in_items_kept own_boundary (relabelled_boundary change) boundary_kept w
          (λ k c. all k (subst (λ l. Contains l k) (sym both)
          (Contains-append_left (flat_map leaves geometries) (flat_map leaves addresses) k
          (subst (λ o. Contains (flat_map leaves (flat_map own_boundary (items_of o))) k) (sym there) c))))

      second : (w : Tree) → member_of (codes "address") value ≡ Some w → Keeps w (relabelled_addresses change w)
      second w is =
          in_items_kept address_boundary (in_member (codes "location") (relabelled_boundary change)) address_kept w
          (λ k c. all k (subst (λ l. Contains l k) (sym both)
          (Contains-append_right (flat_map leaves geometries) (flat_map leaves addresses) k
          (subst (λ o. Contains (flat_map leaves (flat_map address_boundary (items_of o))) k) (sym is) c))))

  new_relabelled : (n : List ℕ) (objects : List (List ℕ × Tree)) → IsNewName n (member_trees objects)
      → IsNewName n (member_trees (relabelled_objects change objects))
  new_relabelled n [] new = tt
  new_relabelled n (o ∷ os) new = (new.0, new_relabelled n os new.1)

  pub objects_relabelled : (objects : List (List ℕ × Tree)) → AllOf HasText (uses objects)
      → KeepsMembers (member_trees objects) (member_trees (relabelled_objects change objects))
  objects_relabelled [] all distinct = (λ w. w, (tt, tt), omega arith)
  objects_relabelled (o ∷ os) all distinct =
      member_kept o.0 o.1 (relabelled_object change o.1) (member_trees os) (member_trees (relabelled_objects change os))
      (object_relabelled o.1 (λ k c. all k (Contains-append_left (flat_map leaves (boundaries o.1)) (uses os) k c)))
      (objects_relabelled os (λ k c. all k (Contains-append_right (flat_map leaves (boundaries o.1)) (uses os) k c)))
      (new_relabelled o.0 os) distinct

-- ---- some of the objects
module _ (Is : List ℕ → Type 0) where
  new_those : (n : List ℕ) (members : MemberTrees) (chosen : List (List ℕ × Tree)) → AreThose Is members chosen
      → IsNewName n members → IsNewName n (member_trees chosen)
  new_those n no_members chosen are new = subst (λ l. IsNewName n (member_trees l)) (sym are) tt
  new_those n (member other v os) chosen (inl here) new =
      subst (λ l. IsNewName n (member_trees l)) (sym here.1.1) (new.0, new_those n os here.1.0 here.1.2 new.1)
  new_those n (member other v os) chosen (inr past) new = new_those n os chosen past.1 new.1

  pub those_kept : (members : MemberTrees) (chosen : List (List ℕ × Tree)) → AreThose Is members chosen
      → KeepsMembers members (member_trees chosen)
  those_kept no_members chosen are distinct =
      let Kept : List (List ℕ × Tree) → Type 0 =
      λ l. (AreWritableMembers no_members → AreWritableMembers (member_trees l))
      × (HasDistinctNames (member_trees l) × AreDistinctMembers (member_trees l))
      × (members_depth (member_trees l) ≤ members_depth no_members) in
      subst Kept (sym are) (λ w. w, (tt, tt), omega arith)
  those_kept (member other v os) chosen (inl here) distinct =
      let rest = here.1.0 in
      let Kept : List (List ℕ × Tree) → Type 0 = λ l. KeepsMembers (member other v os) (member_trees l) in
      subst Kept (sym here.1.1) (member_kept other v v os (member_trees rest) (unchanged v)
      (those_kept os rest here.1.2) (new_those other os rest here.1.2)) distinct
  those_kept (member other v os) chosen (inr past) distinct =
      let others = those_kept os chosen past.1 (distinct.0.1, distinct.1.1) in
      let right = le-max_right (depth v) (members_depth os) in
      (λ all. others.0 all.2, others.1, omega (arith, others.2, right))

-- Boundaries, byte by byte, and the items that have them, one by one.
use Rattle.std.proofs.Common.{◌≡◌, ◌∙◌, ◌++◌, ◌+◌, ◌-◌, ◌*◌, ◌^◌, ◌<◌, ◌≤◌, ℕ, List, [], ◌∷◌, Some, IsUtf8, inl, inr, slice_range, refl, sym, ap, subst, arith, append_assoc, append-nil, codes}
use Rattle.std.proofs.lemmas.Fmt.{decimal_is_IsNumeral}
use Rattle.std.proofs.lemmas.Str.{digit_value_digit}
use Rattle.std.proofs.lemmas.Str.Parse.{digit_at}
use Rattle.std.specs.Char.{digit_value}
use Rattle.std.specs.Fmt.{decimal}
use Rattle.std.specs.List.{AllByRecursion}
use Rattle.std.specs.Option.{option_to_list}
use Rattle.std.specs.Str.Parse.{AllDigits, digits_value_after}
use Rattle.city_json.specs.Bytes.{close_bracket, colon, open_bracket}
use Rattle.city_json.specs.Compact.{compact, compact_items, compact_more_items, quoted}
use Rattle.city_json.specs.Members.{member_of}
use Rattle.city_json.specs.Parts.{AreParts, IsPartNamed}
use Rattle.city_json.specs.declared.compacting.places.MemberPlace.{MemberPlace}
use Rattle.city_json.specs.Tree.{Tree, null, boolean, number, string, array, object, ItemTrees, no_items, item, MemberTrees}
use Rattle.city_feature.specs.Shapes.{IsArray}
use Rattle.city_json.specs.CompactTexts.{IsCompactOf}
use Rattle.city_families.specs.Boundaries.{IsAddress, located, own_boundary}
use Rattle.cut_on_text.specs.Bounds.{AreBounds}
use Rattle.cut_on_text.specs.Holders.{AreHeld, IsHeld}
use Rattle.city_families.specs.Items.{item_list}
use Rattle.city_families.specs.Leaves.{AreNested, IsBoundary, IsNested}
use Rattle.cut_on_text.specs.declared.on_text.holders.Holder.{Holder}
use Rattle.cut_on_text.proofs.TextMembers.{member_there}

-- ---- a nested array
after_more : (value : ℕ) (ds : List ℕ) → value ≤ digits_value_after 10 value ds
after_more value [] = omega arith
after_more value (d ∷ ds) = let more = after_more (value * 10 + digit_value d) ds in omega (arith, more)

digits_scanned : (count value : ℕ) (ds rest : List ℕ) → AllDigits 10 ds → digits_value_after 10 value ds < count
    → AreBounds count (digits_value_after 10 value ds) rest → AreBounds count value (ds ++ rest)
digits_scanned count value [] rest all below there = there
digits_scanned count value (d ∷ ds) rest all below there =
    let range = digit_at (d ∷ ds) 0 all (omega arith) in
    let same : digit_value d ≡ d - 48 = omega (arith, digit_value_digit d range, range) in
    let next : ℕ = value * 10 + (d - 48) in
    let below_next : digits_value_after 10 next ds < count =
    subst (λ n. digits_value_after 10 (value * 10 + n) ds < count) same below in
    let more = after_more next ds in
    inl (
      range,
      omega (arith, more, below_next),
      digits_scanned count next ds rest all.1 below_next
          (subst (λ n. AreBounds count (digits_value_after 10 (value * 10 + n) ds) rest) same there),
    )

abbrev Anywhere : ℕ → List ℕ → Type 0
Anywhere count rest = (value : ℕ) → AreBounds count value rest

mutual
  nested_scanned : (count : ℕ) (value : Tree) (rest : List ℕ) → count < 2 ^ 64 → IsNested count value
      → Anywhere count rest → AreBounds count 0 (compact value ++ rest)
  nested_scanned count (number text) rest small is there =
      let numeral = decimal_is_IsNumeral is.0 (omega (arith, is.1, small)) in
      subst (λ t. AreBounds count 0 (t ++ rest)) (sym is.2)
      (digits_scanned count 0 (decimal is.0) rest numeral.0.1 (omega (arith, numeral.1, is.1)) (there _))
  nested_scanned count (array items) rest small is there =
      subst (λ l. AreBounds count 0 (open_bracket ∷ l))
      (sym (append_assoc (compact_items items) (close_bracket ∷ []) rest))
      (inr (inl refl, items_scanned count items rest small is there))
  nested_scanned count null rest small is there = absurd is
  nested_scanned count (boolean b) rest small is there = absurd is
  nested_scanned count (string s) rest small is there = absurd is
  nested_scanned count (object inner) rest small is there = absurd is

  items_scanned : (count : ℕ) (items : ItemTrees) (rest : List ℕ) → count < 2 ^ 64 → AreNested count items
      → Anywhere count rest → AreBounds count 0 (compact_items items ++ close_bracket ∷ rest)
  items_scanned count no_items rest small are there = inr (inr (inl refl), there 0)
  items_scanned count (item first others) rest small are there =
      subst (AreBounds count 0) (sym (append_assoc (compact first) (compact_more_items others) (close_bracket ∷ rest)))
      (nested_scanned count first (compact_more_items others ++ close_bracket ∷ rest) small are.0
      (more_scanned count others rest small are.1 there))

  more_scanned : (count : ℕ) (items : ItemTrees) (rest : List ℕ) → count < 2 ^ 64 → AreNested count items
      → Anywhere count rest → Anywhere count (compact_more_items items ++ close_bracket ∷ rest)
  more_scanned count no_items rest small are there = λ value. inr (inr (inl refl), there 0)
  more_scanned count (item first others) rest small are there = λ value.
      inr (
        inr (inr refl),
        subst (AreBounds count 0)
            (sym (append_assoc (compact first) (compact_more_items others) (close_bracket ∷ rest)))
            (nested_scanned count first (compact_more_items others ++ close_bracket ∷ rest) small are.0
            (more_scanned count others rest small are.1 there)),
      )

boundary_scanned : (count : ℕ) (value : Tree) → count < 2 ^ 64 → IsBoundary count value
    → AreBounds count 0 (compact value)
boundary_scanned count (array items) small is = subst (AreBounds count 0) (append-nil (compact (array items)))
    (nested_scanned count (array items) [] small is (λ value. tt))
boundary_scanned count null small is = absurd is
boundary_scanned count (boolean b) small is = absurd is
boundary_scanned count (number n) small is = absurd is
boundary_scanned count (string s) small is = absurd is
boundary_scanned count (object inner) small is = absurd is

pub no_boundary : (count : ℕ) (text : List ℕ) → count < 2 ^ 64 → (AreBounds count 0 text → ⊥) → (value : Tree)
    → IsCompactOf text value → IsBoundary count value → ⊥
no_boundary count text small other value of is =
    other (subst (AreBounds count 0) (sym of.is) (boundary_scanned count value small is))

pub is_array : (count : ℕ) (value : Tree) → IsBoundary count value → IsArray value
is_array count (array items) is = tt
is_array count null is = absurd is
is_array count (boolean b) is = absurd is
is_array count (number n) is = absurd is
is_array count (string s) is = absurd is
is_array count (object inner) is = absurd is

-- ---- items, one by one: those that are left are such where all are
abbrev pub AlsoLeft : (Tree → Type 0) → ItemTrees → ItemTrees → Type 0
AlsoLeft P all left = AllByRecursion P (item_list all) → AllByRecursion P (item_list left)

-- ---- members, by their names
pub named_there : (text given marked name : List ℕ) (parts listed : List MemberPlace) (part : MemberPlace)
    → ((v : Tree) → IsCompactOf text v → (members : MemberTrees) × (v ≡ object members) × AreParts 1 parts members)
    → listed ≡ parts → IsPartNamed text listed marked part → given ≡ slice_range text part.value part.end
    → (value : Tree) → IsCompactOf text value → IsUtf8 name → marked ≡ quoted name ++ colon ∷ []
    → (inner : Tree) × (member_of name value ≡ Some inner) × IsCompactOf given inner
named_there text given marked name parts listed part made same named lies value of utf8 is =
    let (members, value_is, are) = made value of in
    let found = member_there text parts members name part given utf8 (subst (IsCompactOf text) value_is of) are
    (subst (λ l. IsPartNamed text l (quoted name ++ colon ∷ []) part) same
    (subst (λ l. IsPartNamed text listed l part) is named)) lies in
    (found.value, ap (member_of name) value_is ∙ found.is, found.of)

pub own_wrong : (count : ℕ) (value inner : Tree) → member_of (codes "boundaries") value ≡ Some inner
    → (IsBoundary count inner → ⊥) → AllByRecursion (IsBoundary count) (own_boundary value) → ⊥
own_wrong count value inner is wrong all =
    wrong (subst (λ o. AllByRecursion (IsBoundary count) (option_to_list o)) is all).0

pub address_wrong : (count : ℕ) (value location : Tree) → member_of (codes "location") value ≡ Some location
    → (AllByRecursion (IsBoundary count) (own_boundary location) → ⊥) → IsAddress count value → ⊥
address_wrong count value location is wrong all =
    wrong (subst (λ o. AllByRecursion (IsBoundary count) (located o)) is all)

-- ---- geometries or addresses
pub array_wrong : (holder : Holder) (count : ℕ) (text : List ℕ)
    → ((value : Tree) → IsCompactOf text value → (items : ItemTrees) × (value ≡ array items))
    → ((items : ItemTrees) → IsCompactOf text (array items) → AllByRecursion (IsHeld holder count) (item_list items) → ⊥)
    → (value : Tree) → IsCompactOf text value → AreHeld holder count value → ⊥
array_wrong holder count text there wrong value of held =
    let (items, is) = there value of in
    wrong items (subst (IsCompactOf text) is of) (subst (AreHeld holder count) is held).1

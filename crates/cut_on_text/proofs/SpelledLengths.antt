-- A text is at least as long as the lists that it spells.
use Rattle.std.proofs.Common.{◌≡◌, ◌≤◌, ◌+◌, ◌++◌, ℕ, Bool, true, false, List, [], ◌∷◌, Some, bytes_eq, length, length-append, refl, ap, subst, arith}
use Rattle.city_json.specs.Bytes.{close_bracket, close_brace, colon}
use Rattle.city_json.specs.Compact.{compact}
use Rattle.city_json.specs.CompactTexts.{IsCompactOf}
use Rattle.city_json.specs.Grammar.{Spaced, Spells, SpellsItems, SpellsMember, SpellsMembers, SpellsMoreItems, SpellsMoreMembers, SpellsValue}
use Rattle.city_json.specs.Members.{first_named, member_of}
use Rattle.city_json.specs.Tree.{Tree, null, boolean, number, string, array, object, ItemTrees, no_items, item, MemberTrees, no_members, member}
use Rattle.city_feature.specs.Feature.{item_count}
use Rattle.city_json.proofs.CompactLaws.{compact-spells}

more_items : (items : ItemTrees) (b : List ℕ) → SpellsMoreItems items b → item_count items ≤ length b
more_items no_items b spells = omega arith
more_items (item value others) b spells =
    let rest = more_items others spells.1 spells.4 in
    omega (arith, rest, ap length spells.2, length-append spells.0 spells.1)

items_within : (items : ItemTrees) (b : List ℕ) → SpellsItems items b → item_count items ≤ length b + 1
items_within no_items b spells = omega arith
items_within (item value others) b spells =
    let rest = more_items others spells.1 spells.4 in
    omega (arith, rest, ap length spells.2, length-append spells.0 spells.1)

array_within : (items : ItemTrees) (b : List ℕ) → SpellsValue (array items) b → item_count items ≤ length b
array_within items b spells =
    let inner = items_within items spells.0 spells.2 in
    omega (arith, inner, ap length spells.1, length-append spells.0 (close_bracket ∷ []))

-- what stands between white space is no longer
spaced_within : (P : List ℕ → Type 0) (b : List ℕ) → (spaced : Spaced P b) → length spaced.1 ≤ length b
spaced_within P b spaced = omega (
  arith,
  ap length spaced.3,
  length-append spaced.0 (spaced.1 ++ spaced.2),
  length-append spaced.1 spaced.2,
)

-- the compact text of an array has a byte for each item
pub compact_within : (items : ItemTrees) (text : List ℕ) → IsCompactOf text (array items) → item_count items ≤ length text
compact_within items text of =
    let spaced = (compact-spells (array items) of.writable).1 in
    let inner = array_within items spaced.1 spaced.5 in
    let outer = spaced_within (SpellsValue (array items)) (compact (array items)) spaced in
    omega (arith, inner, outer, ap length of.is)

member_within : (name : List ℕ) (items : ItemTrees) (b : List ℕ) → SpellsMember name (SpellsValue (array items)) b
    → item_count items ≤ length b
member_within name items b spells =
    let value = spells.4 in
    let inner = array_within items value.1 value.5 in
    let outer = spaced_within (SpellsValue (array items)) spells.1 value in
    omega (arith, inner, outer, ap length spells.2, length-append spells.0 (colon ∷ spells.1))

same_value : (v w : Tree) → Some v ≡ Some w → v ≡ w
same_value v w e = cc

module _ (name : List ℕ) (items : ItemTrees) where
  -- the first of some members, or one of the others
  first_or_other : (other : List ℕ) (v : Tree) (os : MemberTrees) (first b : List ℕ)
      → SpellsMember other (SpellsValue v) first → length first ≤ length b
      → (first_named name os ≡ Some (array items) → item_count items ≤ length b)
      → first_named name (member other v os) ≡ Some (array items) → item_count items ≤ length b
  first_or_other other v os first b spells within others is = by (bytes_eq other name) refl
    where
      by : (t : Bool) → bytes_eq other name ≡ t → item_count items ≤ length b
      by true e =
          let value : v ≡ array items = same_value v (array items) (rw e at is) in
          let here = member_within other items first
          (subst (λ w. SpellsMember other (SpellsValue w) first) value spells) in
          omega (arith, here, within)
      by false e = others (rw e at is)

  more_members : (members : MemberTrees) (b : List ℕ) → SpellsMoreMembers members b
      → first_named name members ≡ Some (array items) → item_count items ≤ length b
  more_members no_members b spells is = cc is
  more_members (member other v os) b spells is =
      first_or_other other v os spells.0 b spells.3
      (omega (arith, ap length spells.2, length-append spells.0 spells.1))
      (λ there. let rest = more_members os spells.1 spells.4 there in
      omega (arith, rest, ap length spells.2, length-append spells.0 spells.1))
      is

  members_within : (members : MemberTrees) (b : List ℕ) → SpellsMembers members b
      → first_named name members ≡ Some (array items) → item_count items ≤ length b
  members_within no_members b spells is = cc is
  members_within (member other v os) b spells is =
      first_or_other other v os spells.0 b spells.3
      (omega (arith, ap length spells.2, length-append spells.0 spells.1))
      (λ there. let rest = more_members os spells.1 spells.4 there in
      omega (arith, rest, ap length spells.2, length-append spells.0 spells.1))
      is

  pub spelled_within : (value : Tree) (text : List ℕ) → Spells text value → member_of name value ≡ Some (array items)
      → item_count items ≤ length text
  spelled_within (object members) text spells is =
      let value = spells.1 in
      let outer = spaced_within (SpellsValue (object members)) text value in
      let inner = members_within members value.5.0 value.5.2 is in
      omega (arith, inner, outer, ap length value.5.1, length-append value.5.0 (close_brace ∷ []))
  spelled_within null text spells is = cc is
  spelled_within (boolean b) text spells is = cc is
  spelled_within (number n) text spells is = cc is
  spelled_within (string s) text spells is = cc is
  spelled_within (array xs) text spells is = cc is

-- What a text spells can be written.
use Rattle.std.proofs.Common.{true, false, ℕ, List}
use Rattle.city_json.specs.Grammar.{SpellsValue, SpellsItems, SpellsMoreItems, SpellsMembers, SpellsMoreMembers, Spells}
use Rattle.city_json.specs.Compact.{compact}
use Rattle.city_json.specs.Tree.{Tree, null, boolean, number, string, array, object, ItemTrees, no_items, item, MemberTrees, no_members, member}
use Rattle.city_json.specs.Writable.{IsWritable, AreWritableItems, AreWritableMembers}
use Rattle.std.proofs.Common.{◌≡◌, subst, sym}
use Rattle.city_json.proofs.Complete.{one_meaning}
use Rattle.city_json.proofs.CompactLaws.{compact-spells}
use Rattle.city_json.proofs.SpelledString.{IsUtf8-spelled}

mutual
  value_writable : (value : Tree) (b : List ℕ) → SpellsValue value b → IsWritable value
  value_writable null b s = tt
  value_writable (boolean true) b s = tt
  value_writable (boolean false) b s = tt
  value_writable (number text) b s = s.1
  value_writable (string text) b s = IsUtf8-spelled text b s
  value_writable (array items) b s = items_writable items s.0 s.2
  value_writable (object members) b s = members_writable members s.0 s.2

  items_writable : (items : ItemTrees) (b : List ℕ) → SpellsItems items b → AreWritableItems items
  items_writable no_items b s = tt
  items_writable (item value others) b s = (value_writable value s.3.1 s.3.5, more_items_writable others s.1 s.4)

  more_items_writable : (items : ItemTrees) (b : List ℕ) → SpellsMoreItems items b → AreWritableItems items
  more_items_writable no_items b s = tt
  more_items_writable (item value others) b s = (value_writable value s.3.1 s.3.5, more_items_writable others s.1 s.4)

  members_writable : (members : MemberTrees) (b : List ℕ) → SpellsMembers members b → AreWritableMembers members
  members_writable no_members b s = tt
  members_writable (member name value others) b s =
      (IsUtf8-spelled name s.3.3.1 s.3.3.5, value_writable value s.3.4.1 s.3.4.5, more_members_writable others s.1 s.4)

  more_members_writable : (members : MemberTrees) (b : List ℕ) → SpellsMoreMembers members b
      → AreWritableMembers members
  more_members_writable no_members b s = tt
  more_members_writable (member name value others) b s =
      (IsUtf8-spelled name s.3.3.1 s.3.3.5, value_writable value s.3.4.1 s.3.4.5, more_members_writable others s.1 s.4)

pub spelled_writable : (b : List ℕ) (value : Tree) → Spells b value → IsWritable value
spelled_writable b value s = value_writable value s.1.1 s.1.5

-- What a text that is a value's compact text was read as is that value.
pub read_of_compact : (text : List ℕ) (value found : Tree) → IsWritable value → text ≡ compact value → Spells text found
    → value ≡ found
read_of_compact text value found writable is spells =
    one_meaning text value found (subst (λ l. Spells l value) (sym is) (compact-spells value writable)).1 spells.1

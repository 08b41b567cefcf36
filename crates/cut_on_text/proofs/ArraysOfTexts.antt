-- Whether an array has no items but texts, by its compact text.
use Rattle.std.proofs.Common.{◌≡◌, ◌↔◌, ℕ, Bool, true, false, IsTrue, List, refl, sym, subst}
use Rattle.city_json.proofs.PassedItems.{GoesOnWith, next_one, none_left, one_less}
use Rattle.city_json.specs.NextItems.{HasNoItem, IsNextItem}
use Rattle.city_json.specs.Tree.{Tree, null, boolean, number, string, array, object, ItemTrees}
use Rattle.city_feature.specs.Shapes.{IsText}
use Rattle.city_json.specs.CompactTexts.{IsCompactOf}
use Rattle.city_families.specs.CityObjects.{AllTexts, AreTexts}
use Rattle.city_families.proofs.CopiedTexts.{not_both}

-- ---- of a value that is no array, and of one that is
pub no_texts : (text : List ℕ) → ((items : ItemTrees) → ¬ IsCompactOf text (array items)) → (value : Tree)
    → IsCompactOf text value → IsTrue false ↔ AreTexts value
no_texts text none value of = (λ never. absurd (not_both false never refl), by value of)
  where
    by : (value : Tree) → IsCompactOf text value → AreTexts value → IsTrue false
    by (array items) of are = absurd (none items of)
    by null of are = absurd are
    by (boolean b) of are = absurd are
    by (number n) of are = absurd are
    by (string s) of are = absurd are
    by (object inner) of are = absurd are

pub array_texts : (text : List ℕ) (answer : Bool)
    → ((value : Tree) → IsCompactOf text value → (items : ItemTrees) × (value ≡ array items))
    → ((items : ItemTrees) → IsCompactOf text (array items) → IsTrue answer ↔ AllTexts items) → (value : Tree)
    → IsCompactOf text value → IsTrue answer ↔ AreTexts value
array_texts text answer there made value of =
    let (items, is) = there value of in
    subst (λ v. IsTrue answer ↔ AreTexts v) (sym is) (made items (subst (IsCompactOf text) is of))

-- ---- item by item: all are texts where those that are left are
abbrev pub SameTexts : ItemTrees → ItemTrees → Type 0
SameTexts all left = AllTexts left ↔ AllTexts all

pub all_texts : (text left : List ℕ) → GoesOnWith SameTexts text left → HasNoItem left → (all : ItemTrees)
    → IsCompactOf text (array all) → IsTrue true ↔ AllTexts all
all_texts text left on none all of =
    let same = none_left SameTexts text left on none all of in (λ yes. same.0 tt, λ texts. refl)

module _ (text left one after : List ℕ) (is : Bool) (on : GoesOnWith SameTexts text left)
    (next : IsNextItem left one after) (test : (value : Tree) → IsCompactOf one value → IsTrue is ↔ IsText value) where
  pub other_item : is ≡ false → (all : ItemTrees) → IsCompactOf text (array all) → IsTrue false ↔ AllTexts all
  other_item not all of =
      let (first, others, one_of, same) = next_one SameTexts text left one after on next all of in (
        λ never. absurd (not_both false never refl),
        λ texts. absurd (not_both is ((test first one_of).1 (same.1 texts).0) not),
      )

  pub same_on : is ≡ true → GoesOnWith SameTexts text after
  same_on so = one_less SameTexts SameTexts text left one after on next (λ all first others one_of same.
      let is_text : IsText first = (test first one_of).0 so in (
        λ texts. same.0 (is_text, texts),
        λ texts. (same.1 texts).1,
      ))

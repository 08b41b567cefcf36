-- The texts in an array, found in its compact text, and what they tell of a city object.
use Rattle.std.proofs.Common.{◌≡◌, ◌∙◌, ◌++◌, ◌↔◌, ℕ, suc, Bool, true, false, IsTrue, List, [], ◌∷◌, Option, Some, None, length, unwrap_or, refl, sym, ap, subst, rules, codes, append_assoc, append-nil}
use Rattle.std.specs.Borrow.{Bor}
use Rattle.std.specs.List.{AllZip}
use Rattle.std.specs.Prelude.{nat_eq, not}
use Rattle.city_json.proofs.PassedItems.{GoesOnWith, all_left, none_left, one_less}
use Rattle.city_json.specs.CompactTexts.{IsCompactOf}
use Rattle.city_json.specs.Members.{first_named}
use Rattle.city_json.specs.NextItems.{HasNoItem, IsNextItem}
use Rattle.city_json.specs.Tree.{Tree, null, boolean, number, string, array, object, ItemTrees, no_items, item, MemberTrees}
use Rattle.city_feature.specs.Shapes.{IsText, WhereThere}
use Rattle.city_families.specs.CityObjects.{AllTexts, AreTexts, is_filled}
use Rattle.city_families.specs.Items.{item_list}
use Rattle.cut_on_text.specs.Kin.{AreQuoted, HasParents, IsQuoted}

-- with the texts that are found, those that are left are all
abbrev pub FoundSoFar : List (Bor (List ℕ)) → ItemTrees → ItemTrees → Type 0
FoundSoFar found all left = (more : List (Bor (List ℕ))) → AllZip IsQuoted more (item_list left)
    → AllZip IsQuoted (found ++ more) (item_list all)

-- the same for whatever array has this text
abbrev pub TextsGoOn : List ℕ → List ℕ → List (Bor (List ℕ)) → Type 0
TextsGoOn text left found = GoesOnWith (FoundSoFar found) text left

pub texts_begin : (text left : List ℕ) (found : List (Bor (List ℕ))) → found ≡ [] → left ≡ text
    → TextsGoOn text left found
texts_begin text left found none is = all_left (FoundSoFar found) text left is
    (λ all more zip. subst (λ l. AllZip IsQuoted (l ++ more) (item_list all)) (sym none) zip)

-- a text is found with its marks
quoted_there : (one : Bor (List ℕ)) (value : Tree) → IsCompactOf one.now value → IsText value → IsQuoted one value
quoted_there one (string text) of is = (of.is, of.writable)
quoted_there one null of is = absurd is
quoted_there one (boolean b) of is = absurd is
quoted_there one (number text) of is = absurd is
quoted_there one (array items) of is = absurd is
quoted_there one (object members) of is = absurd is

pub texts_go_on : (text left after : List ℕ) (found found' : List (Bor (List ℕ))) (one : Bor (List ℕ)) (is : Bool)
    → TextsGoOn text left found → IsNextItem left one.now after
    → ((value : Tree) → IsCompactOf one.now value → IsTrue is ↔ IsText value) → is ≡ true → found' ≡ found ++ one ∷ []
    → TextsGoOn text after found'
texts_go_on text left after found found' one is on next test so pushed =
    one_less (FoundSoFar found) (FoundSoFar found') text left one.now after on next
    (λ all first others one_of so_far more zip.
    subst (λ l. AllZip IsQuoted l (item_list all))
    (sym (append_assoc found (one ∷ []) more) ∙ ap (λ l. l ++ more) (sym pushed))
    (so_far (one ∷ more) (quoted_there one first one_of ((test first one_of).0 so), zip)))

pub texts_stop : (text left : List ℕ) (found : List (Bor (List ℕ))) → TextsGoOn text left found → HasNoItem left
    → ((value : Tree) → IsCompactOf text value → (items : ItemTrees) × (value ≡ array items)) → (value : Tree)
    → IsCompactOf text value → AreQuoted found value
texts_stop text left found on none there value of =
    let (items, is) = there value of in (
      items,
      is,
      subst (λ l. AllZip IsQuoted l (item_list items)) (append-nil found)
          (none_left (FoundSoFar found) text left on none items (subst (IsCompactOf text) is of) [] tt),
    )

-- ---- what the texts tell of a city object
text_said : (one : Bor (List ℕ)) (value : Tree) → IsQuoted one value → IsText value
text_said one (string text) is = tt
text_said one null is = absurd is
text_said one (boolean b) is = absurd is
text_said one (number text) is = absurd is
text_said one (array items) is = absurd is
text_said one (object members) is = absurd is

texts_said : (found : List (Bor (List ℕ))) (items : ItemTrees) → AllZip IsQuoted found (item_list items)
    → AllTexts items
texts_said [] no_items zip = tt
texts_said [] (item value others) zip = absurd zip
texts_said (x ∷ xs) no_items zip = absurd zip
texts_said (x ∷ xs) (item value others) zip = (text_said x value zip.0, texts_said xs others zip.1)

filled_said : (found : List (Bor (List ℕ))) (items : ItemTrees) → AllZip IsQuoted found (item_list items)
    → not (nat_eq (length found) 0) ≡ is_filled (Some (array items))
filled_said [] no_items zip = refl
filled_said [] (item value others) zip = absurd zip
filled_said (x ∷ xs) no_items zip = absurd zip
filled_said (x ∷ xs) (item value others) zip = ap not (more (length xs))
  where
    more : (n : ℕ) → nat_eq (suc n) 0 ≡ false
    more n = search rules

pub are_texts : (found : List (Bor (List ℕ))) (value : Tree) → AreQuoted found value → AreTexts value
are_texts found value (items, is, zip) = subst AreTexts (sym is) (texts_said found items zip)

are_filled : (found : List (Bor (List ℕ))) (value : Tree) → AreQuoted found value
    → not (nat_eq (length found) 0) ≡ is_filled (Some value)
are_filled found value (items, is, zip) = filled_said found items zip ∙ ap (λ v. is_filled (Some v)) (sym is)

said_or : (there : Option Tree) (found : List (Bor (List ℕ))) → AreQuoted found (unwrap_or there (array no_items))
    → WhereThere AreTexts there × (not (nat_eq (length found) 0) ≡ is_filled there)
said_or None found are = (tt, are_filled found (array no_items) are)
said_or (Some value) found are = (are_texts found value are, are_filled found value are)

pub parents_said : (value : Tree) (members : MemberTrees) (found : List (Bor (List ℕ))) (has : Bool)
    → value ≡ object members → AreQuoted found (unwrap_or (first_named (codes "parents") members) (array no_items))
    → has ≡ not (nat_eq (length found) 0) → HasParents value has
parents_said value members found has is are test = subst (λ v. HasParents v has) (sym is) (
    let said = said_or (first_named (codes "parents") members) found are in
    record { is_object = tt; texts = said.0; is_so = test ∙ said.1 })

-- Whether values are city objects, by their compact texts.
use Rattle.std.proofs.Common.{◌≡◌, ◌∙◌, ◌++◌, ◌+◌, ◌<◌, ◌≤◌, ◌↔◌, ℕ, zero, suc, Bool, true, false, IsTrue, List, [], ◌∷◌, Option, Some, None, codes, length, get_or, slice_range, take, take_all, unwrap_or, refl, sym, ap, subst, arith}
use Rattle.std.proofs.lemmas.List.{take_more}
use Rattle.city_json.specs.Members.{first_named}
use Rattle.city_json.specs.Parts.{AreParts}
use Rattle.city_json.specs.Tree.{Tree, MemberTrees, array, no_items, null, object, member_trees}
use Rattle.city_json.specs.declared.compacting.places.MemberPlace.{MemberPlace}
use Rattle.city_feature.specs.Shapes.{IsObject, WhereThere}
use Rattle.city_json.specs.CompactTexts.{IsCompactOf}
use Rattle.city_families.specs.Chosen.{named_at}
use Rattle.city_families.specs.CityObjects.{AreCityObjects, AreTexts, IsCityObject}
use Rattle.cut_on_text.specs.Faults.{HoldsCityObjects}
use Rattle.city_families.proofs.CopiedTexts.{not_both}
use Rattle.cut_on_text.proofs.TextDocuments.{listed_there}
use Rattle.cut_on_text.proofs.TextFeatures.{as_many_parts, value_there}

-- ---- one city object
texts_or : (there : Option Tree) → AreTexts (unwrap_or there (array no_items)) ↔ WhereThere AreTexts there
texts_or None = (λ are. tt, λ are. tt)
texts_or (Some value) = (λ are. are, λ are. are)

pub no_object : (text : List ℕ) (is : Bool) → ((value : Tree) → IsCompactOf text value → IsTrue is ↔ IsObject value)
    → is ≡ false → (value : Tree) → IsCompactOf text value → IsTrue false ↔ IsCityObject value
no_object text is test none value of =
    (λ never. absurd (not_both false never refl), λ city. absurd (not_both is ((test value of).1 city.0) none))

-- whether the member of this name is an array of texts was told
abbrev pub ToldTexts : List ℕ → Bool → MemberTrees → Type 0
ToldTexts name is members = IsTrue is ↔ AreTexts (unwrap_or (first_named name members) (array no_items))

pub no_parents : (is : Bool) (members : MemberTrees) → ToldTexts (codes "parents") is members → is ≡ false
    → IsTrue false ↔ IsCityObject (object members)
no_parents is members test none = (
  λ never. absurd (not_both false never refl),
  λ city. absurd (not_both is (test.1 ((texts_or (first_named (codes "parents") members)).1 city.1)) none),
)

pub by_children : (is answer : Bool) (members : MemberTrees) → ToldTexts (codes "parents") is members → is ≡ true
    → ToldTexts (codes "children") answer members → IsTrue answer ↔ IsCityObject (object members)
by_children is answer members test so last = (
  λ all. (
    tt,
    (texts_or (first_named (codes "parents") members)).0 (test.0 so),
    (texts_or (first_named (codes "children") members)).0 (last.0 all),
  ),
  λ city. last.1 ((texts_or (first_named (codes "children") members)).1 city.2),
)

-- ---- all of them
-- whatever value has this text, it is an object of which the members lie in these parts
abbrev pub IsListed : List ℕ → List MemberPlace → Type 0
IsListed text parts = (value : Tree) → IsCompactOf text value
    → (members : MemberTrees) × (value ≡ object members) × AreParts 1 parts members

-- those of the first `at` parts are city objects
abbrev pub AreChecked : List ℕ → List MemberPlace → ℕ → Type 0
AreChecked text parts at = (pairs : List (List ℕ × Tree)) → IsCompactOf text (object (member_trees pairs))
    → AreParts 1 parts (member_trees pairs) → AreCityObjects (member_trees (take at pairs))

city_push : (pairs : List (List ℕ × Tree)) (pair : List ℕ × Tree) → AreCityObjects (member_trees pairs)
    → IsCityObject pair.1 → AreCityObjects (member_trees (pairs ++ pair ∷ []))
city_push [] pair all one = (one, tt)
city_push (p ∷ ps) pair all one = (all.0, city_push ps pair all.1 one)

-- the value that lies in a part of a text
pub record IsValueAt (text given : List ℕ) (parts : List MemberPlace) (at : ℕ) : Type 0 where
  pub part : MemberPlace
  pub within : at < length parts
  pub lies : given ≡ slice_range text (get_or parts at part).value (get_or parts at part).end

pub checked_more : (text given : List ℕ) (parts : List MemberPlace) (at : ℕ) (is : Bool) → AreChecked text parts at
    → IsValueAt text given parts at
    → ((value : Tree) → IsCompactOf given value → IsTrue is ↔ IsCityObject value) → is ≡ true
    → AreChecked text parts (at + 1)
checked_more text given parts at is before here test so pairs of are =
    let there = value_there text given parts at here.part pairs here.within here.lies of are in
    subst (λ l. AreCityObjects (member_trees l)) (sym (take_more pairs at ([], null) there.0))
    (city_push (take at pairs) (named_at pairs at) (before pairs of are)
    ((test (named_at pairs at).1 there.2).0 so))

city_at : (pairs : List (List ℕ × Tree)) (k : ℕ) → AreCityObjects (member_trees pairs) → k < length pairs
    → IsCityObject (named_at pairs k).1
city_at [] k all within = absurd (omega (arith, within))
city_at (p ∷ ps) zero all within = all.0
city_at (p ∷ ps) (suc k) all within = city_at ps k all.1 (omega (arith, within))

object_same : (a b : MemberTrees) → object a ≡ object b → a ≡ b
object_same a b same = ap inner same
  where
    inner : Tree → MemberTrees
    inner (object members) = members
    inner other = a

city_in : (pairs : List (List ℕ × Tree)) (value : Tree) → value ≡ object (member_trees pairs) → HoldsCityObjects value
    → AreCityObjects (member_trees pairs)
city_in pairs value is (members, same, all) =
    subst AreCityObjects (object_same members (member_trees pairs) (sym same ∙ is)) all

pub other_holds : (text : List ℕ) (is : Bool) → ((value : Tree) → IsCompactOf text value → IsTrue is ↔ IsObject value)
    → is ≡ false → (value : Tree) → IsCompactOf text value → IsTrue false ↔ HoldsCityObjects value
other_holds text is test none value of = (
  λ never. absurd (not_both false never refl),
  λ holds. absurd (not_both is ((test value of).1 (subst IsObject (sym holds.1) tt)) none),
)

pub one_is_none : (text given : List ℕ) (parts : List MemberPlace) (at : ℕ) (is : Bool)
    → IsListed text parts
    → IsValueAt text given parts at
    → ((value : Tree) → IsCompactOf given value → IsTrue is ↔ IsCityObject value) → is ≡ false
    → (value : Tree) → IsCompactOf text value → IsTrue false ↔ HoldsCityObjects value
one_is_none text given parts at is listed here test none value of = (
  λ never. absurd (not_both false never refl),
  λ holds.
      let all = listed_there text parts value listed of in
      let there = value_there text given parts at here.part all.pairs here.within here.lies all.are.0 all.are.1 in
      let city = city_at all.pairs at (city_in all.pairs value all.is holds) there.0 in
      absurd (not_both is ((test (named_at all.pairs at).1 there.2).1 city) none),
)

pub all_hold : (text : List ℕ) (parts : List MemberPlace) (at : ℕ)
    → IsListed text parts
    → AreChecked text parts at → length parts ≤ at → (value : Tree) → IsCompactOf text value
    → IsTrue true ↔ HoldsCityObjects value
all_hold text parts at listed checked past value of = (
  λ so.
      let all = listed_there text parts value listed of in
      let many = as_many_parts 1 parts all.pairs all.are.1 in (
        member_trees all.pairs,
        all.is,
        subst (λ l. AreCityObjects (member_trees l)) (take_all at all.pairs (omega (arith, many, past)))
            (checked all.pairs all.are.0 all.are.1),
      ),
  λ holds. refl,
)

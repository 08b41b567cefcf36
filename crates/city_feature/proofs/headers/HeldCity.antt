-- Whether an object holds city objects or vertices, by the texts of these members.
use Rattle.std.proofs.Common.{◌≡◌, ◌∙◌, ◌↔◌, Bool, IsTrue, List, ℕ, codes, false, not, refl, sym, true}
use Rattle.city_json.proofs.CompactLaws.{compact-tells}
use Rattle.city_json.specs.Tree.{Tree, null, boolean, number, string, array, object, no_items, item, no_members, member}
use Rattle.city_feature.specs.Shapes.{IsArray, IsFilledArray, IsFilledObject, IsObject}
use Rattle.city_json.specs.CompactTexts.{IsCompactOf}
use Rattle.city_feature.proofs.features.LineVertices.{not_both}

-- an array with no item has one text, and so has an object with no member
pub filled_array : (text : List ℕ) (value : Tree) → IsCompactOf text value → (text ≡ codes "[]" → ⊥) → IsArray value
    → IsFilledArray value
filled_array text (array no_items) of other is = absurd (other of.is)
filled_array text (array (item value others)) of other is = tt
filled_array text null of other is = absurd is
filled_array text (boolean b) of other is = absurd is
filled_array text (number n) of other is = absurd is
filled_array text (string s) of other is = absurd is
filled_array text (object members) of other is = absurd is

pub other_array : (text : List ℕ) (value : Tree) → IsCompactOf text value → IsFilledArray value
    → IsArray value × (text ≡ codes "[]" → ⊥)
other_array text (array (item value others)) of is = (
  tt,
  λ same. apart (compact-tells (array (item value others)) (array no_items) of.writable tt (sym of.is ∙ same)),
)
  where
    apart : array (item value others) ≡ array no_items → ⊥
    apart same = cc
other_array text (array no_items) of is = absurd is
other_array text null of is = absurd is
other_array text (boolean b) of is = absurd is
other_array text (number n) of is = absurd is
other_array text (string s) of is = absurd is
other_array text (object members) of is = absurd is

pub filled_object : (text : List ℕ) (value : Tree) → IsCompactOf text value → (text ≡ codes "{}" → ⊥) → IsObject value
    → IsFilledObject value
filled_object text (object no_members) of other is = absurd (other of.is)
filled_object text (object (member name value others)) of other is = tt
filled_object text null of other is = absurd is
filled_object text (boolean b) of other is = absurd is
filled_object text (number n) of other is = absurd is
filled_object text (string s) of other is = absurd is
filled_object text (array items) of other is = absurd is

pub other_object : (text : List ℕ) (value : Tree) → IsCompactOf text value → IsFilledObject value
    → IsObject value × (text ≡ codes "{}" → ⊥)
other_object text (object (member name value others)) of is = (
  tt,
  λ same. apart (compact-tells (object (member name value others)) (object no_members) of.writable tt
      (sym of.is ∙ same)),
)
  where
    apart : object (member name value others) ≡ object no_members → ⊥
    apart same = cc
other_object text (object no_members) of is = absurd is
other_object text null of is = absurd is
other_object text (boolean b) of is = absurd is
other_object text (number n) of is = absurd is
other_object text (string s) of is = absurd is
other_object text (array items) of is = absurd is

-- two texts differ, by a test of whether they are the same
pub told_apart : (same differ : Bool) (P : Type 0) → (same ≡ true) ↔ P → differ ≡ not same
    → IsTrue differ ↔ (P → ⊥)
told_apart true differ P test is = (
  λ yes. absurd (not_both differ is yes),
  λ apart. absurd (apart (test.0 refl)),
)
told_apart false differ P test is = (λ yes p. not_both false refl (test.1 p), λ apart. is)

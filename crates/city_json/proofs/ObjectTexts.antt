-- The compact text of an object is read as that object, and its members are found by their names.
use Rattle.std.proofs.Common.{◌≡◌, ◌∙◌, ◌≤◌, List, ℕ, ap, subst, sym, unwrap_or, length, slice_range}
pub use Rattle.city_json.proofs.Options.{if_some_more, if_none, none_more}
use Rattle.city_json.proofs.CompactLaws.{compact-spells}
use Rattle.city_json.proofs.Complete.{text_at-complete}
use Rattle.city_json.proofs.NamedMembers.{absent_there, parts_in_text, value_there}
use Rattle.city_json.proofs.SpelledWritable.{spelled_writable}
use Rattle.city_json.specs.CompactTexts.{IsCompactOf}
use Rattle.city_json.specs.Depth.{IsDeep}
use Rattle.city_json.specs.Fits.{Fits}
use Rattle.city_json.specs.Grammar.{Spaced, Spells, SpellsValue}
use Rattle.city_json.specs.ObjectTexts.{HasNone, IsPlacedObject, IsValueOf, IsValueOr, PlacedObject, SpellsThere, members_in, members_of}
use Rattle.city_json.specs.Parts.{AreParts, IsPartNamed, NotNamed}
use Rattle.city_json.specs.Reading.{text_at}
use Rattle.city_json.specs.SpelledObjects.{SpellsObject}
use Rattle.city_json.specs.Tree.{MemberTrees, object}
use Rattle.city_json.specs.declared.compacting.places.MemberPlace.{MemberPlace}

-- what a text that is compact says of the object that the bytes spell
pub compacted_here : (bytes line given : List ℕ) (parts passed : List MemberPlace) → given ≡ line → passed ≡ parts
    → SpellsObject bytes line parts → SpellsObject bytes given passed
compacted_here bytes line given parts passed same_line same_parts (members, spells, fits, shallow, written, are) =
    (members, spells, fits, shallow, same_line ∙ written, subst (λ l. AreParts 1 l members) (sym same_parts) are)

pub compact_of : (bytes line : List ℕ) (parts : List MemberPlace) (is : SpellsObject bytes line parts)
    → IsCompactOf line (object is.0)
compact_of bytes line parts is = record {
  is = is.4;
  writable = spelled_writable bytes (object is.0) is.1;
  distinct = is.2.1;
  within = is.2.0;
}

pub members_read : (text : List ℕ) (members : MemberTrees) → IsCompactOf text (object members)
    → members_in (text_at text) ≡ members
members_read text members of =
    ap members_in (text_at-complete text (object members)
    (subst (Spaced (SpellsValue (object members))) (sym of.is) (compact-spells (object members) of.writable).1) of.within)

-- what the bytes spell is the object of the compact text
pub spelled_there : (bytes line : List ℕ) (parts : List MemberPlace) → SpellsObject bytes line parts
    → SpellsThere bytes (record { text = line; parts = parts })
spelled_there bytes line parts is =
    let same = sym (members_read line is.0 (compact_of bytes line parts is)) in
    subst (λ members. Spells bytes (object members) × Fits (object members) × (¬ IsDeep bytes)) same
    (is.1, is.2, is.3)

pub placed : (text : List ℕ) (parts : List MemberPlace) (members : MemberTrees) → IsCompactOf text (object members)
    → AreParts 1 parts members → IsPlacedObject (record { text = text; parts = parts })
placed text parts members of are =
    let same = sym (members_read text members of) in
    record {
      of = subst (λ m. IsCompactOf text (object m)) same of;
      are = subst (λ m. AreParts 1 parts m) same are;
    }

module _ (there : PlacedObject) (is : IsPlacedObject there) (given : List ℕ) where
  pub has_none : NotNamed there.text there.parts given (length there.parts) → HasNone given there
  has_none none name named =
      absent_there there.text there.parts (members_of there) given name is.of.is is.are named none

  module _ (part : MemberPlace) (here : IsPartNamed there.text there.parts given part) where
    pub value_found : (found : List ℕ) → found ≡ slice_range there.text part.value part.end → IsValueOf given there found
    value_found found lies name utf8 named =
        let value = value_there there.text there.parts (members_of there) name part found utf8 is.of is.are
        (subst (λ g. IsPartNamed there.text there.parts g part) named here) lies in
        (value.value, value.is, value.of)

    pub lies_inside : (part.value ≤ part.end) × (part.end ≤ length there.text)
    lies_inside =
        let inside = parts_in_text there.text (members_of there) there.parts here.place part is.of.is is.are here.within
        in subst (λ (p : MemberPlace). (p.value ≤ p.end) × (p.end ≤ length there.text)) here.is
        (inside.1, inside.2)

pub some_or : (given : List ℕ) (there : PlacedObject) (other found : List ℕ) → IsValueOf given there found
    → IsValueOr given there other found
some_or given there other found has name utf8 named value of =
    let (first, is, here) = has name utf8 named in
    subst (λ o. IsCompactOf found (unwrap_or o value)) (sym is) here

pub none_or : (given : List ℕ) (there : PlacedObject) (other : List ℕ) → HasNone given there
    → IsValueOr given there other other
none_or given there other none name utf8 named value of =
    subst (λ o. IsCompactOf other (unwrap_or o value)) (sym (none name named)) of

-- The texts of members, found by their names in the compact text of an object.
use Rattle.std.proofs.Common.{◌≡◌, ◌++◌, ◌∙◌, ◌≤◌, ℕ, List, [], ◌∷◌, Some, None, IsUtf8, length, unwrap_or, slice_range, refl, sym, subst, arith}
use Rattle.city_json.proofs.CompactLaws.{compact-tells}
use Rattle.city_json.proofs.NamedMembers.{value_there}
use Rattle.city_json.proofs.ObjectTexts.{lies_inside, placed, value_found}
pub use Rattle.city_json.proofs.ObjectTexts.{if_some_more}
pub use Rattle.city_feature.proofs.features.FirstFaults.{are_in_range, err_told, ok_told}
use Rattle.city_json.specs.Bytes.{colon}
use Rattle.city_json.specs.Compact.{quoted, compact}
use Rattle.city_json.specs.CompactMembers.{HasParts}
use Rattle.city_json.specs.Members.{first_named, member_of}
use Rattle.city_json.specs.ObjectTexts.{HasNone, IsPlacedObject, PlacedObject, object_of}
use Rattle.city_json.specs.Parts.{AreParts, with_value, IsPartNamed}
use Rattle.city_json.specs.Tree.{Tree, null, object, MemberTrees}
use Rattle.city_json.specs.declared.compacting.places.MemberPlace.{MemberPlace}
use Rattle.city_feature.proofs.NoObjects.{no_member}
use Rattle.city_feature.proofs.LineTexts.{found_at}
use Rattle.city_feature.specs.Changes.{with_named}
use Rattle.city_feature.specs.Shapes.{IsObject}
use Rattle.city_json.specs.CompactTexts.{IsCompactOf}

-- the value of the member of this name, whose text is given
pub record IsMember (text : List ℕ) (members : MemberTrees) (name : List ℕ) (part : MemberPlace) (given : List ℕ) : Type 0
  where
    pub value : Tree
    pub is : first_named name members ≡ Some value
    pub of : IsCompactOf given value
    pub exchanged : (new : Tree) → compact (object (with_named name new members)) ≡ with_value text part (compact new)

pub member_there : (text : List ℕ) (parts : List MemberPlace) (members : MemberTrees) (name : List ℕ) (part : MemberPlace)
    (given : List ℕ) → IsUtf8 name → IsCompactOf text (object members) → AreParts 1 parts members
    → IsPartNamed text parts (quoted name ++ colon ∷ []) part → given ≡ slice_range text part.value part.end
    → IsMember text members name part given
member_there text parts members name part given utf8 of are here lies =
    let found = found_at text parts members name part utf8 of are here in
    let has = value_there text parts members name part given utf8 of are here lies in
    record { value = has.value; is = has.is; of = has.of; exchanged = found.exchanged }

-- the value of that member, whose text is given, and any other value where there is none
pub value_or : (text given marked name : List ℕ) (parts : List MemberPlace) (part : MemberPlace) (members : MemberTrees)
    (other : Tree) → IsCompactOf text (object members) → AreParts 1 parts members → IsUtf8 name
    → marked ≡ quoted name ++ colon ∷ [] → IsPartNamed text parts marked part
    → given ≡ slice_range text part.value part.end → IsCompactOf given (unwrap_or (first_named name members) other)
value_or text given marked name parts part members other of are utf8 is named lies =
    let found = member_there text parts members name part given utf8 of are
    (subst (λ l. IsPartNamed text parts l part) is named) lies in
    subst (λ o. IsCompactOf given (unwrap_or o other)) (sym found.is) found.of

-- ---- values that have no members
pub null_text : IsCompactOf (compact null) null
null_text = record { is = refl; writable = tt; distinct = tt; within = omega arith }

-- what is no object has no members
pub no_object : (text : List ℕ) (value : Tree) (name : List ℕ) → ((members : MemberTrees) → ¬ IsCompactOf text (object members))
    → IsCompactOf text value → member_of name value ≡ None
no_object text value name none of = no_member value name (apart value of)
  where
    apart : (value : Tree) → IsCompactOf text value → ¬ IsObject value
    apart (object members) of = λ is. none members of
    apart other of = λ is. is

-- the members of the value whose compact text this is, where their parts are known
module _ (text : List ℕ) (parts : List MemberPlace) (has : HasParts text parts) (value : Tree) (of : IsCompactOf text value)
  where
    abbrev there : PlacedObject
    there = record { text = text; parts = parts }

    pub object_there : (members : MemberTrees) × IsCompactOf text (object members) × AreParts 1 parts members
    object_there =
        let (members, is, are) = has value of.writable of.within of.is in
        (members, subst (IsCompactOf text) is of, are)

    is_placed : IsPlacedObject there
    is_placed = let (members, is, are) = object_there in placed text parts members is are

    same_value : object_of there ≡ value
    same_value = compact-tells (object_of there) value is_placed.of.writable of.writable (sym is_placed.of.is ∙ of.is)

    pub none_there : (given name : List ℕ) → HasNone given there → given ≡ quoted name ++ colon ∷ []
        → member_of name value ≡ None
    none_there given name none named = subst (λ v. member_of name v ≡ None) same_value (none name named)

    pub inside_there : (given : List ℕ) (part : MemberPlace) → IsPartNamed text parts given part
        → (part.value ≤ part.end) × (part.end ≤ length text)
    inside_there given part here = lies_inside there is_placed given part here

    pub value_there_or : (given name : List ℕ) (part : MemberPlace) → IsPartNamed text parts given part → IsUtf8 name
        → given ≡ quoted name ++ colon ∷ []
        → IsCompactOf (slice_range text part.value part.end) (unwrap_or (member_of name value) null)
    value_there_or given name part here utf8 named =
        let (found, is, here_of) = value_found there is_placed given part here (slice_range text part.value part.end) refl
        name utf8 named in
        subst (λ v. IsCompactOf (slice_range text part.value part.end) (unwrap_or (member_of name v) null)) same_value
        (subst (λ o. IsCompactOf (slice_range text part.value part.end) (unwrap_or o null)) (sym is) here_of)

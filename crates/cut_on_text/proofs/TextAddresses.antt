-- Addresses that are copied from their compact texts.
use Rattle.std.proofs.Common.{◌≡◌, ◌∙◌, ◌++◌, ◌<◌, ℕ, List, [], ◌∷◌, None, length, take, drop, get_or, slice_range, refl, sym, ap, subst, arith, codes}
use Rattle.std.specs.List.{flat_map, AllByRecursion}
use Rattle.std.specs.Option.{option_to_list}
use Rattle.city_json.specs.Bytes.{colon, open_brace}
use Rattle.city_json.specs.Compact.{compact, quoted}
use Rattle.city_json.specs.Members.{first_named, member_of}
use Rattle.city_json.specs.Parts.{AreParts, IsPartNamed}
use Rattle.city_json.specs.Tree.{Tree, null, boolean, number, string, array, object, MemberTrees}
use Rattle.city_json.specs.declared.compacting.places.MemberPlace.{MemberPlace}
use Rattle.city_feature.proofs.LineTexts.{utf8}
use Rattle.city_feature.specs.Changes.{with_named}
use Rattle.city_families.specs.Boundaries.{IsAddress, IsGeometry, address_boundary, changed_members, in_member, located, own_boundary, relabelled_boundary}
use Rattle.city_families.specs.Leaves.{IsBoundary, leaves, relabelled}
use Rattle.cut_on_text.specs.Walks.{Labelling, Walks, walks_so, walks_text}
use Rattle.city_json.specs.CompactTexts.{IsCompactOf}
use Rattle.cut_on_text.proofs.TextMembers.{changed_absent, changed_with, walks_exchanged, member_there, with_same}

abbrev pub AddressMade : {S : Type 0} → Labelling S → ℕ → S → List ℕ → S → List ℕ → Tree → Type 0
AddressMade L count s line s' line' value = IsAddress count value
    × Walks L s line s' line' (flat_map leaves (address_boundary value))
    (λ change. compact (in_member (codes "location") (relabelled_boundary change) value))

-- what is no object has no members, and stays
not_object : (text : List ℕ) (value : Tree) (name : List ℕ) → (0 < length text → get_or text 0 0 ≡ open_brace → ⊥)
    → IsCompactOf text value → (member_of name value ≡ None) × ((f : Tree → Tree) → in_member name f value ≡ value)
not_object text (object members) name other of =
    absurd (other (omega (arith, ap length of.is)) (ap (λ l. get_or l 0 0) of.is))
not_object text null name other of = (refl, λ f. refl)
not_object text (boolean b) name other of = (refl, λ f. refl)
not_object text (number n) name other of = (refl, λ f. refl)
not_object text (string s) name other of = (refl, λ f. refl)
not_object text (array items) name other of = (refl, λ f. refl)

-- an address that has no boundary
module _ {S : Type 0} {L : Labelling S} (count : ℕ) (text : List ℕ) (s : S) (line line' : List ℕ)
    (appended : line' ≡ line ++ text) where
  address_stays : (value : Tree) → IsCompactOf text value → address_boundary value ≡ []
      → ((change : List ℕ → List ℕ) → in_member (codes "location") (relabelled_boundary change) value ≡ value)
      → AddressMade L count s line s line' value
  address_stays value of none same = (
    subst (AllByRecursion (IsBoundary count)) (sym none) tt,
    walks_so s line s line' [] (flat_map leaves (address_boundary value)) (λ change. text)
        (λ change. compact (in_member (codes "location") (relabelled_boundary change) value))
        (walks_text s line line' text appended) (sym (ap (flat_map leaves) none))
        (λ change. of.is ∙ ap compact (sym (same change))),
  )

  pub address_no_object : (0 < length text → get_or text 0 0 ≡ open_brace → ⊥) → (value : Tree) → IsCompactOf text value
      → AddressMade L count s line s line' value
  address_no_object other value of =
      let none = not_object text value (codes "location") other of in
      address_stays value of (ap located none.0) (λ change. none.1 (relabelled_boundary change))

  pub address_absent : (members : MemberTrees) → IsCompactOf text (object members)
      → first_named (codes "location") members ≡ None → AddressMade L count s line s line' (object members)
  address_absent members of none = address_stays (object members) of (ap located none)
      (λ change. ap object (changed_absent (codes "location") (relabelled_boundary change) members none))

  pub address_bare : (given : List ℕ) (parts : List MemberPlace) (part : MemberPlace) (members : MemberTrees)
      → IsCompactOf text (object members) → AreParts 1 parts members
      → IsPartNamed text parts (quoted (codes "location") ++ colon ∷ []) part
      → given ≡ slice_range text part.value part.end → (0 < length given → get_or given 0 0 ≡ open_brace → ⊥)
      → AddressMade L count s line s line' (object members)
  address_bare given parts part members of are named lies other =
      let found = member_there text parts members (codes "location") part given (utf8 (codes "location") refl) of are
      named lies in
      let none = not_object given found.value (codes "boundaries") other found.of in
      address_stays (object members) of (ap located found.is ∙ ap option_to_list none.0)
      (λ change. ap object
      (changed_with (codes "location") (relabelled_boundary change) found.value members of.distinct.0 found.is
      ∙ (ap (λ v. with_named (codes "location") v members) (none.1 (relabelled change))
      ∙ with_same (codes "location") found.value members found.is)))

pub address_made : {S : Type 0} {L : Labelling S} (count : ℕ) (text given : List ℕ) (s : S) (line line₁ : List ℕ)
    (s' : S) (line₂ line₃ : List ℕ) (parts : List MemberPlace) (part : MemberPlace)
    (members : MemberTrees) → IsCompactOf text (object members) → AreParts 1 parts members
    → IsPartNamed text parts (quoted (codes "location") ++ colon ∷ []) part
    → given ≡ slice_range text part.value part.end
    → line₁ ≡ line ++ take part.value text
    → ((value : Tree) → IsCompactOf given value → IsGeometry count value
    × Walks L s line₁ s' line₂ (flat_map leaves (own_boundary value))
    (λ change. compact (relabelled_boundary change value)))
    → line₃ ≡ line₂ ++ drop part.end text
    → IsAddress count (object members) × Walks L s line s' line₃
    (flat_map leaves (address_boundary (object members)))
    (λ change. compact (in_member (codes "location") (relabelled_boundary change) (object members)))
address_made count text given s line line₁ s' line₂ line₃ parts part members of are named lies front made back =
    let found = member_there text parts members (codes "location") part given (utf8 (codes "location") refl) of are
    named lies in
    let inner = made found.value found.of in
    let there : address_boundary (object members) ≡ own_boundary found.value = rw found.is refl in
    let all = walks_exchanged s line line₁ s' line₂ line₃ text part members (codes "location") found.value
    (flat_map leaves (own_boundary found.value)) relabelled_boundary of.distinct.0 found.is found.exchanged front
    inner.1 back in (
      subst (AllByRecursion (IsBoundary count)) (sym there) inner.0.1,
      walks_so s line s' line₃ (flat_map leaves (own_boundary found.value))
          (flat_map leaves (address_boundary (object members)))
          (λ change. compact (object (changed_members (codes "location") (relabelled_boundary change) members)))
          (λ change. compact (in_member (codes "location") (relabelled_boundary change) (object members))) all
          (sym (ap (flat_map leaves) there)) (λ change. refl),
    )

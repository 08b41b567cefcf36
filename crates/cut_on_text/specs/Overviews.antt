-- What one walk over the texts of city objects finds of each.
use Rattle.std.specs.Prelude.{◌≡◌, ◌++◌, ◌∷◌, [], ℕ, Bool, List, Option, None, MatchOption, slice_range}
use Rattle.std.specs.Borrow.{Bor}
use Rattle.std.specs.List.{AllZip}
use Rattle.city_json.specs.Bytes.{colon}
use Rattle.city_json.specs.Compact.{quoted}
use Rattle.city_json.specs.Members.{first_named}
use Rattle.city_json.specs.Parts.{AreParts, IsPartNamed}
use Rattle.city_json.specs.Tree.{Tree, MemberTrees, object}
use Rattle.city_json.specs.declared.compacting.places.MemberPlace.{MemberPlace}
use Rattle.cut_on_text.specs.Holders.{name_of}
use Rattle.cut_on_text.specs.Kin.{HasChildrenText, HasParents}
use Rattle.city_json.specs.CompactTexts.{IsCompactOf}
use Rattle.cut_on_text.specs.declared.on_text.holders.Holder.{Holder}
use Rattle.cut_on_text.specs.declared.on_text.holders.Holder.TheVariants.{Geometry, Address}
use Rattle.cut_on_text.specs.declared.on_text.holders.HeldParts.{HeldParts}

-- no object with this text and these parts has such a member
abbrev pub IsNowhere : Holder → List ℕ → List MemberPlace → Type 0
IsNowhere holder text parts = (members : MemberTrees) → IsCompactOf text (object members) → AreParts 1 parts members
    → first_named (name_of holder) members ≡ None

abbrev pub IsFoundIn : Holder → List ℕ → List MemberPlace → MemberPlace → Type 0
IsFoundIn holder text parts part = IsPartNamed text parts (quoted (name_of holder) ++ colon ∷ []) part

abbrev pub IsHolderPart : Holder → List ℕ → List MemberPlace → Option MemberPlace → Type 0
IsHolderPart holder text parts found = MatchOption found (IsNowhere holder text parts) (IsFoundIn holder text parts)

-- the members in which boundaries stand lie there, in the text of whatever object this is
pub record HasHolders (text : List ℕ) (held : HeldParts) : Type 0 where
  pub parts : List MemberPlace
  pub listed : (value : Tree) → IsCompactOf text value
      → (members : MemberTrees) × (value ≡ object members) × AreParts 1 parts members
  pub geometry : IsHolderPart Geometry text parts held.geometry
  pub address : IsHolderPart Address text parts held.address

-- the same of the objects that lie in these parts of a text
abbrev pub AreHolders : List ℕ → List MemberPlace → List HeldParts → Type 0
AreHolders text places held = AllZip
    (λ (part : MemberPlace) (there : HeldParts). HasHolders (slice_range text part.value part.end) there) places held

-- whatever object lies in this part of a text, it has parents as it is said
abbrev pub HasParentsIn : List ℕ → MemberPlace → Bool → Type 0
HasParentsIn text part has = (value : Tree) → IsCompactOf (slice_range text part.value part.end) value
    → HasParents value has

-- and this is the text of its children
abbrev pub HasChildrenIn : List ℕ → MemberPlace → Bor (List ℕ) → Type 0
HasChildrenIn text part given = (value : Tree) → IsCompactOf (slice_range text part.value part.end) value
    → HasChildrenText value given

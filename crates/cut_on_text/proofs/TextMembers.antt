-- The members of an object that lie in its compact text, and how they are exchanged.
use Rattle.std.proofs.Common.{◌≡◌, ◌∙◌, ◌++◌, ℕ, List, [], Some, None, bytes_eq, take, drop, refl, sym, ap, subst, append_assoc, append-nil, inl, inr}
use Rattle.std.proofs.lemmas.Option.{same_Some}
use Rattle.std.proofs.lemmas.Bool.{cases_Bool}
use Rattle.std.proofs.lemmas.Slice.Eq.{bytes_eq-Decides}
use Rattle.city_json.specs.Compact.{compact}
use Rattle.city_json.specs.Fits.{HasDistinctNames, IsNewName}
use Rattle.city_json.specs.Members.{first_named}
use Rattle.city_json.specs.Parts.{with_value}
use Rattle.city_json.specs.Tree.{Tree, object, MemberTrees, no_members, member}
use Rattle.city_json.specs.declared.compacting.places.MemberPlace.{MemberPlace}
pub use Rattle.city_json.proofs.NamedMembers.{same_place}
pub use Rattle.city_json.proofs.Options.{on_some_more}
pub use Rattle.city_feature.proofs.NamedTexts.{if_some_more, member_there, value_or}
use Rattle.city_feature.specs.Changes.{with_named}
use Rattle.city_families.specs.Boundaries.{changed_members}
use Rattle.cut_on_text.specs.Walks.{Labelling, Walks, walks_both, walks_so, walks_text}

-- ---- changing the members of a name
pub new_none : (name : List ℕ) (members : MemberTrees) → IsNewName name members → first_named name members ≡ None
new_none name no_members new = refl
new_none name (member other v others) new = elim (cases_Bool (bytes_eq other name)) [
  | inl e ↦ absurd (new.0 (sym ((bytes_eq-Decides other name).0 e)))
  | inr e ↦ rw e (new_none name others new.1)
]

pub changed_absent : (name : List ℕ) (f : Tree → Tree) (members : MemberTrees) → first_named name members ≡ None
    → changed_members name f members ≡ members
changed_absent name f no_members none = refl
changed_absent name f (member other v others) none = elim (cases_Bool (bytes_eq other name)) [
  | inl e ↦ absurd (some_is_none (rw e at none))
  | inr e ↦ rw e (ap (member other v) ((changed_absent name f others) (rw e at none)))
]
  where
    some_is_none : Some v ≡ None → ⊥
    some_is_none e = cc

pub changed_with : (name : List ℕ) (f : Tree → Tree) (value : Tree) (members : MemberTrees) → HasDistinctNames members
    → first_named name members ≡ Some value → changed_members name f members ≡ with_named name (f value) members
changed_with name f value no_members differ is = cc
changed_with name f value (member other v others) differ is = elim (cases_Bool (bytes_eq other name)) [
  | inl e ↦ let same : other ≡ name = (bytes_eq-Decides other name).0 e in
      let none : first_named name others ≡ None =
      new_none name others (subst (λ n. IsNewName n others) same differ.0) in
      rw e (ap (λ t. member other (f t) (changed_members name f others)) (same_Some _ _ (rw e at is))
      ∙ ap (member other (f value)) (changed_absent name f others none))
  | inr e ↦ rw e (ap (member other v) ((changed_with name f value others differ.1) (rw e at is)))
]

pub with_same : (name : List ℕ) (value : Tree) (members : MemberTrees) → first_named name members ≡ Some value
    → with_named name value members ≡ members
with_same name value no_members is = cc
with_same name value (member other v others) is = elim (cases_Bool (bytes_eq other name)) [
  | inl e ↦ rw e (ap (λ t. member other t others) (sym (same_Some _ _ (rw e at is))))
  | inr e ↦ rw e (ap (member other v) ((with_same name value others) (rw e at is)))
]

-- ---- the text around a member, and its value between
pub walks_exchanged : {S : Type 0} {L : Labelling S} (s : S) (line line₁ : List ℕ) (s' : S)
    (line₂ line₃ text : List ℕ) (part : MemberPlace) (members : MemberTrees)
    (name : List ℕ) (value : Tree) (uses : List ℕ) (f : (List ℕ → List ℕ) → Tree → Tree)
    → HasDistinctNames members → first_named name members ≡ Some value
    → ((new : Tree) → compact (object (with_named name new members)) ≡ with_value text part (compact new))
    → line₁ ≡ line ++ take part.value text → Walks L s line₁ s' line₂ uses (λ change. compact (f change value))
    → line₃ ≡ line₂ ++ drop part.end text
    → Walks L s line s' line₃ uses (λ change. compact (object (changed_members name (f change) members)))
walks_exchanged s line line₁ s' line₂ line₃ text part members name value uses f differ is exchanged front middle
    back =
    let first = walks_text s line line₁ (take part.value text) front in
    let last = walks_text s' line₂ line₃ (drop part.end text) back in
    let two = walks_both s line s line₁ s' line₂ [] uses (λ change. take part.value text)
    (λ change. compact (f change value)) first middle in
    let three = walks_both s line s' line₂ s' line₃ uses []
    (λ change. take part.value text ++ compact (f change value)) (λ change. drop part.end text) two last in
    walks_so s line s' line₃ (uses ++ []) uses
    (λ change. (take part.value text ++ compact (f change value)) ++ drop part.end text)
    (λ change. compact (object (changed_members name (f change) members))) three (append-nil uses)
    (λ change. append_assoc (take part.value text) (compact (f change value)) (drop part.end text)
    ∙ (sym (exchanged (f change value)) ∙ ap (λ m. compact (object m))
    (sym (changed_with name (f change) value members differ is))))

-- ---- slices
pub three : (line line₁ line₂ line₃ a b c : List ℕ) → line₁ ≡ line ++ a → line₂ ≡ line₁ ++ b → line₃ ≡ line₂ ++ c
    → line₃ ≡ line ++ (a ++ (b ++ c))
three line line₁ line₂ line₃ a b c first second third =
    third ∙ (ap (λ l. l ++ c) (second ∙ ap (λ l. l ++ b) first) ∙ regroup line a b c)
  where
    regroup : (line a b c : List ℕ) → ((line ++ a) ++ b) ++ c ≡ line ++ (a ++ (b ++ c))
    regroup line a b c = simp append_assoc

-- The members of an object of which one was changed.
use Rattle.std.proofs.Common.{◌≡◌, ℕ, true, false, List, Some, bytes_eq, if◌then◌else◌, is_some, option_map, refl, ap, ◌∙◌, inl, inr}
use Rattle.std.proofs.lemmas.Bool.{cases_Bool, true≢false}
use Rattle.std.proofs.lemmas.Slice.Eq.{bytes_eq-Decides}
use Rattle.city_json.specs.Members.{first_named, member_of}
use Rattle.city_json.specs.Tree.{Tree, null, boolean, number, string, array, object, MemberTrees, no_members, member}
use Rattle.city_feature.specs.Changes.{changed_member, changed_named, with_member, with_named, without_member, without_named}

apart_by : (other m n : List ℕ) → bytes_eq m n ≡ false → bytes_eq other m ≡ true → bytes_eq other n ≡ false
apart_by other m n apart e = ap (λ l. bytes_eq l n) ((bytes_eq-Decides other m).0 e) ∙ apart

kept_named : (m n : List ℕ) (f : Tree → Tree) (ms : MemberTrees) → bytes_eq m n ≡ false
    → first_named n (changed_named m f ms) ≡ first_named n ms
kept_named m n f no_members apart = refl
kept_named m n f (member other v os) apart = elim (cases_Bool (bytes_eq other m)) [
  | inl e ↦ rw (e, apart_by other m n apart e) refl
  | inr e ↦ rw e (ap (λ x. if bytes_eq other n then Some v else x) (kept_named m n f os apart))
]

own_named : (m : List ℕ) (f : Tree → Tree) (ms : MemberTrees)
    → first_named m (changed_named m f ms) ≡ option_map f (first_named m ms)
own_named m f no_members = refl
own_named m f (member other v os) = elim (cases_Bool (bytes_eq other m)) [
  | inl e ↦ rw (e, e) refl
  | inr e ↦ rw (e, e) (own_named m f os)
]

left_named : (m n : List ℕ) (ms : MemberTrees) → bytes_eq m n ≡ false
    → first_named n (without_named m ms) ≡ first_named n ms
left_named m n no_members apart = refl
left_named m n (member other v os) apart = elim (cases_Bool (bytes_eq other m)) [
  | inl e ↦ rw (e, apart_by other m n apart e) refl
  | inr e ↦ rw e (ap (λ x. if bytes_eq other n then Some v else x) (left_named m n os apart))
]

set_named : (m : List ℕ) (value : Tree) (ms : MemberTrees) → is_some (first_named m ms) ≡ true
    → with_named m value ms ≡ changed_named m (λ old. value) ms
set_named m value no_members there = cc
set_named m value (member other v os) there = elim (cases_Bool (bytes_eq other m)) [
  | inl e ↦ rw e refl
  | inr e ↦ rw e (ap (member other v) (set_named m value os (rw e at there)))
]

no_named : (m : List ℕ) (f : Tree → Tree) (ms : MemberTrees) → is_some (first_named m ms) ≡ false
    → changed_named m f ms ≡ ms
no_named m f no_members none = refl
no_named m f (member other v os) none = elim (cases_Bool (bytes_eq other m)) [
  | inl e ↦ absurd (true≢false (rw e at none))
  | inr e ↦ rw e (ap (member other v) (no_named m f os (rw e at none)))
]

-- ---- the same of values
pub kept : (m n : List ℕ) (f : Tree → Tree) (value : Tree) → bytes_eq m n ≡ false
    → member_of n (changed_member m f value) ≡ member_of n value
kept m n f (object ms) apart = kept_named m n f ms apart
kept m n f null apart = refl
kept m n f (boolean b) apart = refl
kept m n f (number text) apart = refl
kept m n f (string text) apart = refl
kept m n f (array items) apart = refl

pub own : (m : List ℕ) (f : Tree → Tree) (value : Tree)
    → member_of m (changed_member m f value) ≡ option_map f (member_of m value)
own m f (object ms) = own_named m f ms
own m f null = refl
own m f (boolean b) = refl
own m f (number text) = refl
own m f (string text) = refl
own m f (array items) = refl

pub left : (m n : List ℕ) (value : Tree) → bytes_eq m n ≡ false
    → member_of n (without_member m value) ≡ member_of n value
left m n (object ms) apart = left_named m n ms apart
left m n null apart = refl
left m n (boolean b) apart = refl
left m n (number text) apart = refl
left m n (string text) apart = refl
left m n (array items) apart = refl

pub set_is_changed : (m : List ℕ) (new value : Tree) → is_some (member_of m value) ≡ true
    → with_member m new value ≡ changed_member m (λ old. new) value
set_is_changed m new (object ms) there = ap object (set_named m new ms there)
set_is_changed m new null there = refl
set_is_changed m new (boolean b) there = refl
set_is_changed m new (number text) there = refl
set_is_changed m new (string text) there = refl
set_is_changed m new (array items) there = refl

pub none_is_unchanged : (m : List ℕ) (f : Tree → Tree) (value : Tree) → is_some (member_of m value) ≡ false
    → changed_member m f value ≡ value
none_is_unchanged m f (object ms) none = ap object (no_named m f ms none)
none_is_unchanged m f null none = refl
none_is_unchanged m f (boolean b) none = refl
none_is_unchanged m f (number text) none = refl
none_is_unchanged m f (string text) none = refl
none_is_unchanged m f (array items) none = refl

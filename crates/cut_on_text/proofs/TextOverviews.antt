-- What is looked at of each city object.
use Rattle.std.proofs.Common.{◌≡◌, ◌∙◌, ◌++◌, ◌<◌, ℕ, suc, List, [], ◌∷◌, get_or, length, slice_range, refl, ap, sym, subst, arith}
use Rattle.city_json.proofs.NamedMembers.{some_part}
use Rattle.std.specs.List.{AllZip}
use Rattle.city_json.specs.CompactMembers.{HasParts}
use Rattle.city_json.specs.Parts.{AreParts}
use Rattle.city_json.specs.Tree.{Tree, member_trees, null, object}
use Rattle.city_json.specs.declared.compacting.places.MemberPlace.{MemberPlace}
use Rattle.city_families.specs.Chosen.{named_at}
use Rattle.cut_on_text.specs.Overviews.{AreHolders, HasHolders}
use Rattle.city_json.specs.CompactTexts.{IsCompactOf}
use Rattle.cut_on_text.specs.declared.on_text.holders.HeldParts.{HeldParts}
use Rattle.city_families.proofs.FeatureList.{zip_at, zip_long}
use Rattle.cut_on_text.proofs.TextFeatures.{as_many_parts, value_there}
use Rattle.city_families.proofs.Seeking.{zip_push}

pub none_yet : {A B : Type 0} (R : A → B → Type 0) (xs : List A) (ys : List B) → xs ≡ [] → ys ≡ [] → AllZip R xs ys
none_yet R xs ys none none₂ = subst (λ l. AllZip R l ys) (sym none) (subst (AllZip R []) (sym none₂) tt)

parts_given : (text given : List ℕ) (part : MemberPlace) (parts listed : List MemberPlace)
    → given ≡ slice_range text part.value part.end → listed ≡ parts
    → HasParts (slice_range text part.value part.end) parts → HasParts given listed
parts_given text given part parts listed lies same has =
    subst (λ t. HasParts t listed) (sym lies) (subst (HasParts (slice_range text part.value part.end)) (sym same) has)

-- what is said of whatever object lies in a part
abbrev pub SaidIn : {A : Type 0} → (Tree → A → Type 0) → List ℕ → MemberPlace → A → Type 0
SaidIn R text part x = (value : Tree) → IsCompactOf (slice_range text part.value part.end) value → R value x

pub said_here : {A : Type 0} (R : Tree → A → Type 0) (text given : List ℕ) (part : MemberPlace) (parts listed : List MemberPlace)
    (one : A) → given ≡ slice_range text part.value part.end → listed ≡ parts
    → HasParts (slice_range text part.value part.end) parts
    → (HasParts given listed → (value : Tree) → IsCompactOf given value → R value one) → SaidIn R text part one
said_here R text given part parts listed one lies same has made =
    λ value of. made (parts_given text given part parts listed lies same has) value
    (subst (λ t. IsCompactOf t value) (sym lies) of)

pub held_here : (text given : List ℕ) (part : MemberPlace) (parts listed : List MemberPlace) (one : HeldParts)
    → given ≡ slice_range text part.value part.end → listed ≡ parts
    → HasParts (slice_range text part.value part.end) parts
    → (HasParts given listed → HasHolders given one) → HasHolders (slice_range text part.value part.end) one
held_here text given part parts listed one lies same has made =
    subst (λ t. HasHolders t one) lies (made (parts_given text given part parts listed lies same has))

pub zip_more : {A B : Type 0} (R : A → B → Type 0) (xs xs' : List A) (ys ys' : List B) (x : A) (y : B)
    → xs' ≡ xs ++ x ∷ [] → ys' ≡ ys ++ y ∷ [] → R x y → AllZip R xs ys → AllZip R xs' ys'
zip_more R xs xs' ys ys' x y more more₂ here all =
    subst (λ l. AllZip R l ys') (sym more) (subst (AllZip R (xs ++ x ∷ [])) (sym more₂) (zip_push R xs ys x y all here))

-- where boundaries may stand in the object at a place
pub holders_at : (text given : List ℕ) (places : List MemberPlace) (held : List HeldParts) (at : ℕ) (part d : MemberPlace)
    (one e : HeldParts) → AreHolders text places held → at < length held → part ≡ get_or places at d
    → one ≡ get_or held at e → given ≡ slice_range text part.value part.end → HasHolders given one
holders_at text given places held at part d one e all within here there lies =
    subst (λ t. HasHolders t one) (sym (lies ∙ ap (λ (p : MemberPlace). slice_range text p.value p.end) here))
    (subst (HasHolders (slice_range text (get_or places at d).value (get_or places at d).end)) (sym there)
    (zip_at (λ (p : MemberPlace) (h : HeldParts). HasHolders (slice_range text p.value p.end) h) places held at d e all
    within))

-- ---- the objects that lie in parts of a text
zip_from : {A B : Type 0} (R : A → B → Type 0) (xs : List A) (ys : List B) (e : B) → length xs ≡ length ys
    → ((i : ℕ) (d : A) → i < length xs → R (get_or xs i d) (get_or ys i e)) → AllZip R xs ys
zip_from R [] [] e long each = tt
zip_from R [] (y ∷ ys) e long each = absurd (omega (arith, long))
zip_from R (x ∷ xs) [] e long each = absurd (omega (arith, long))
zip_from R (x ∷ xs) (y ∷ ys) e long each = (
  each 0 x (omega arith),
  zip_from R xs ys e (omega (arith, long)) (λ i d within. each (suc i) d (omega (arith, within))),
)

said_there : {A : Type 0} (R : Tree → A → Type 0) (text : List ℕ) (places : List MemberPlace) (found : List A)
    (pairs : List (List ℕ × Tree)) (i : ℕ) (d : A)
    → AllZip (SaidIn R text) places found → IsCompactOf text (object (member_trees pairs))
    → AreParts 1 places (member_trees pairs) → i < length found → i < length places
    → R (named_at pairs i).1 (get_or found i d)
said_there R text places found pairs i d all of are within inside =
    let p : MemberPlace = some_part places i inside in
    let there = value_there text _ places i p pairs inside refl of are in
    zip_at (SaidIn R text) places found i p d all within (named_at pairs i).1 there.2

pub said_all : {A : Type 0} (R : Tree → A → Type 0) (text : List ℕ) (places : List MemberPlace) (found : List A)
    (pairs : List (List ℕ × Tree)) → AllZip (SaidIn R text) places found → IsCompactOf text (object (member_trees pairs))
    → AreParts 1 places (member_trees pairs) → AllZip (λ (x : A) (pair : List ℕ × Tree). R pair.1 x) found pairs
said_all R text places found pairs all of are =
    let long = zip_long (SaidIn R text) places found all in
    let many = as_many_parts 1 places pairs are in
    zip_from (λ x (pair : List ℕ × Tree). R pair.1 x) found pairs ([], null) (omega (arith, long, many))
    (λ i d within. said_there R text places found pairs i d all of are within (omega (arith, within, long)))

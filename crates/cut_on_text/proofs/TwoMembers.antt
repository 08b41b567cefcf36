-- Two members of an object that get other values, in the object's compact text.
use Rattle.std.proofs.Common.{◌≡◌, ◌∙◌, ◌++◌, ◌<◌, ◌≤◌, ◌+◌, ◌-◌, ℕ, zero, suc, Bool, true, false, if◌then◌else◌, List, [], ◌∷◌, Some, IsUtf8, bytes_eq, length, take, drop, get_or, slice_range, refl, sym, ap, subst, arith, inl, inr}
use Rattle.std.proofs.lemmas.Option.{same_Some}
use Rattle.std.proofs.lemmas.List.{drop-append-le, get_or_default, drop-take, length-take-le, take-append-le, take-append-drop}
use Rattle.std.proofs.Math.Dec.{ltb}
use Rattle.std.proofs.lemmas.Bool.{cases_Bool, ltb-false, ltb-true}
use Rattle.std.proofs.lemmas.Slice.Eq.{bytes_eq-Decides}
use Rattle.city_json.proofs.Replacing.{replaced_text}
use Rattle.city_json.specs.Bytes.{colon, open_brace, close_brace}
use Rattle.city_json.specs.Compact.{compact, quoted}
use Rattle.city_json.specs.Fits.{HasDistinctNames}
use Rattle.city_json.specs.Members.{first_named}
use Rattle.city_json.specs.Parts.{AreParts, HasMember, replaced, with_value, IsPartNamed}
use Rattle.city_json.specs.Tree.{Tree, MemberTrees, no_members, member, object}
use Rattle.city_json.specs.declared.compacting.places.MemberPlace.{MemberPlace}
use Rattle.city_json.proofs.NamedMembers.{first_at, member_lies, parts_in_text, parts_within}
use Rattle.city_feature.proofs.LineTexts.{replaced_at}
use Rattle.city_families.specs.Boundaries.{changed_members}
use Rattle.city_json.specs.CompactTexts.{IsCompactOf}
use Rattle.cut_on_text.proofs.TextMembers.{changed_with, same_place}
use Rattle.city_families.proofs.Renumbering.{distinct_kept}

-- ---- the parts of members of which one has another value
abbrev placed : ℕ → List ℕ → Tree → MemberPlace
placed front name value = record {
  at = front;
  value = front + length (quoted name ++ colon ∷ []);
  end = (front + length (quoted name ++ colon ∷ [])) + length (compact value);
}

abbrev places : ℕ → MemberTrees → List MemberPlace
places front no_members = []
places front (member name value others) = placed front name value ∷ places ((placed front name value).end + 1) others

places_are : (front : ℕ) (members : MemberTrees) → AreParts front (places front members) members
places_are front no_members = tt
places_are front (member name value others) =
    ((refl, refl, refl), places_are ((placed front name value).end + 1) others)

record AreMoved (front k j : ℕ) (value : Tree) (d : MemberPlace) (parts : List MemberPlace) (members : MemberTrees) : Type 0 where
  pub parts_then : List MemberPlace
  pub are : AreParts front parts_then (replaced k value members)
  pub within : j < length parts_then
  pub same : get_or parts_then j d ≡ get_or parts j d

moved : (front k j : ℕ) (value : Tree) (d : MemberPlace) (parts : List MemberPlace) (members : MemberTrees)
    → AreParts front parts members → j < k → k < length parts → AreMoved front k j value d parts members
moved front k j value d [] members are below within = absurd (omega (arith, within))
moved front k j value d (p ∷ ps) no_members are below within = absurd are
moved front zero j value d (p ∷ ps) (member n v o) are below within = absurd (omega (arith, below))
moved front (suc k) zero value d (p ∷ ps) (member n v o) are below within = record {
  parts_then = p ∷ places (p.end + 1) (replaced k value o);
  are = (are.0, places_are (p.end + 1) (replaced k value o));
  within = omega arith;
  same = refl;
}
moved front (suc k) (suc j) value d (p ∷ ps) (member n v o) are below within =
    let more = moved (p.end + 1) k j value d ps o are.1 (omega (arith, below)) (omega (arith, within)) in
    record {
      parts_then = p ∷ more.parts_then;
      are = (are.0, more.are);
      within = omega (arith, more.within);
      same = more.same;
    }

-- ---- parts stand one after another
lies_after : (front k : ℕ) (d : MemberPlace) (parts : List MemberPlace) (members : MemberTrees) → AreParts front parts members
    → k < length parts → front ≤ (get_or parts k d).at
lies_after front k d [] members are within = absurd (omega (arith, within))
lies_after front k d (p ∷ ps) no_members are within = absurd are
lies_after front zero d (p ∷ ps) (member n v o) are within = omega (arith, are.0.0)
lies_after front (suc k) d (p ∷ ps) (member n v o) are within =
    let later = lies_after (p.end + 1) k d ps o are.1 (omega (arith, within)) in
    omega (arith, later, are.0.0, are.0.1, are.0.2)

rises : (front j k : ℕ) (d : MemberPlace) (parts : List MemberPlace) (members : MemberTrees) → AreParts front parts members → j < k
    → k < length parts → (get_or parts j d).end < (get_or parts k d).at
rises front j k d [] members are below within = absurd (omega (arith, within))
rises front j k d (p ∷ ps) no_members are below within = absurd are
rises front j zero d (p ∷ ps) (member n v o) are below within = absurd (omega (arith, below))
rises front zero (suc k) d (p ∷ ps) (member n v o) are below within = let later =
    lies_after (p.end + 1) k d ps o are.1 (omega (arith, within)) in omega (arith, later)
rises front (suc j) (suc k) d (p ∷ ps) (member n v o) are below within =
    rises (p.end + 1) j k d ps o are.1 (omega (arith, below)) (omega (arith, within))

-- ---- the texts around them
around : (text x y : List ℕ) (p q : MemberPlace) → p.value ≤ q.value → p.end ≤ q.value → q.value ≤ length text
    → with_value (with_value text q y) p x ≡ take p.value text
    ++ (x ++ (slice_range text p.end q.value ++ (y ++ drop q.end text)))
around text x y p q begins ends within =
    let long : length (take q.value text) ≡ q.value = length-take-le q.value text within in
    let count : p.value + (q.value - p.value) ≡ q.value = omega (arith, begins) in
    let count₂ : p.end + (q.value - p.end) ≡ q.value = omega (arith, ends) in
    let all : take p.value (take q.value text) ≡ take p.value text =
    sym (take-append-le p.value (take q.value text) (drop q.value text) (omega (arith, long, begins)))
    ∙ ap (take p.value) (take-append-drop q.value text) in
    let front : take p.value (take q.value text ++ (y ++ drop q.end text)) ≡ take p.value text =
    take-append-le p.value (take q.value text) (y ++ drop q.end text) (omega (arith, long, begins)) ∙ all in
    let middle : drop p.end (take q.value text) ≡ slice_range text p.end q.value =
    ap (λ n. drop p.end (take n text)) (sym count₂) ∙ drop-take p.end (q.value - p.end) text in
    let back : drop p.end (take q.value text ++ (y ++ drop q.end text)) ≡ slice_range text p.end q.value
    ++ (y ++ drop q.end text) =
    drop-append-le p.end (take q.value text) (y ++ drop q.end text) (omega (arith, long, ends))
    ∙ ap (λ l. l ++ (y ++ drop q.end text)) middle in
    ap (λ l. l ++ (x ++ drop p.end (take q.value text ++ (y ++ drop q.end text)))) front
    ∙ ap (λ l. take p.value text ++ (x ++ l)) back

replaced_two : (text : List ℕ) (members : MemberTrees) (parts : List MemberPlace) (j k : ℕ) (d : MemberPlace) (x y : Tree)
    → text ≡ compact (object members) → AreParts 1 parts members → j < k → k < length parts
    → compact (object (replaced j x (replaced k y members))) ≡ take (get_or parts j d).value text
    ++ (compact x ++ (slice_range text (get_or parts j d).end (get_or parts k d).value
    ++ (compact y ++ drop (get_or parts k d).end text)))
replaced_two text members parts j k d x y is are below within =
    let p : MemberPlace = get_or parts j d in
    let q : MemberPlace = get_or parts k d in
    let first = parts_in_text text members parts j d is are (omega (arith, below, within)) in
    let second = parts_in_text text members parts k d is are within in
    let apart = rises 1 j k d parts members are below within in
    let after = moved 1 k j y d parts members are below within in
    let one : with_value text q (compact y) ≡ compact (object (replaced k y members)) =
    ap (λ l. with_value l q (compact y)) is ∙ replaced_text members (open_brace ∷ []) (close_brace ∷ []) parts k d y
    are within in
    let two : with_value (compact (object (replaced k y members))) (get_or after.parts_then j d) (compact x)
    ≡ compact (object (replaced j x (replaced k y members))) =
    replaced_text (replaced k y members) (open_brace ∷ []) (close_brace ∷ []) after.parts_then j d x after.are
    after.within in
    sym two ∙ (ap (λ r. with_value (compact (object (replaced k y members))) r (compact x)) after.same
    ∙ (ap (λ l. with_value l p (compact x)) (sym one)
    ∙ around text (compact x) (compact y) p q (omega (arith, first, second, apart)) (omega (arith, second, apart))
    (omega (arith, second))))

-- ---- by their names
has_kept : (k : ℕ) (n name : List ℕ) (f : Tree → Tree) (value : Tree) (members : MemberTrees) → bytes_eq n name ≡ false
    → HasMember k n value members → HasMember k n value (changed_members name f members)
has_kept k n name f value no_members apart has = has
has_kept zero n name f value (member other v o) apart has =
    (has.0, ap (λ b. if b then f v else v) (ap (λ l. bytes_eq l name) has.0 ∙ apart) ∙ has.1)
has_kept (suc k) n name f value (member other v o) apart has = has_kept k n name f value o apart has

changed_two : (members : MemberTrees) (j k : ℕ) (n m : List ℕ) (f g : Tree → Tree) (v w : Tree)
    → HasDistinctNames members → bytes_eq n m ≡ false → HasMember j n v members → HasMember k m w members
    → changed_members n f (changed_members m g members) ≡ replaced j (f v) (replaced k (g w) members)
changed_two members j k n m f g v w differ apart here there =
    let others : MemberTrees = changed_members m g members in
    let others_is : others ≡ replaced k (g w) members =
    changed_with m g w members differ (first_at k m w members differ there)
    ∙ sym (replaced_at k m w (g w) members differ there) in
    let kept : HasDistinctNames others = distinct_kept m g members differ in
    let still : HasMember j n v others = has_kept j n m g v members apart here in
    changed_with n f v others kept (first_at j n v others kept still)
    ∙ (sym (replaced_at j n v (f v) others kept still) ∙ ap (replaced j (f v)) others_is)

pub changed_either : (n m : List ℕ) (f g : Tree → Tree) (members : MemberTrees) → bytes_eq n m ≡ false
    → bytes_eq m n ≡ false → changed_members n f (changed_members m g members)
    ≡ changed_members m g (changed_members n f members)
changed_either n m f g no_members apart apart₂ = refl
changed_either n m f g (member other v o) apart apart₂ =
    by (bytes_eq other n) (bytes_eq other m) refl refl (changed_either n m f g o apart apart₂)
  where
    true_not_false : true ≡ false → ⊥
    true_not_false e = cc

    by : (b c : Bool) → bytes_eq other n ≡ b → bytes_eq other m ≡ c
        → changed_members n f (changed_members m g o) ≡ changed_members m g (changed_members n f o)
        → changed_members n f (changed_members m g (member other v o))
        ≡ changed_members m g (changed_members n f (member other v o))
    by true true e e₂ later = absurd (true_not_false
        (sym e₂ ∙ (ap (λ l. bytes_eq l m) ((bytes_eq-Decides other n).0 e) ∙ apart)))
    by true false e e₂ later = rw (e, e₂) (ap (member other (f v)) later)
    by false true e e₂ later = rw (e, e₂) (ap (member other (g v)) later)
    by false false e e₂ later = rw (e, e₂) (ap (member other v) later)

has_named : (text : List ℕ) (parts : List MemberPlace) (members : MemberTrees) (name : List ℕ) (part : MemberPlace) (value : Tree)
    → IsUtf8 name → IsCompactOf text (object members) → AreParts 1 parts members
    → (here : IsPartNamed text parts (quoted name ++ colon ∷ []) part) → first_named name members ≡ Some value
    → HasMember here.place name value members
has_named text parts members name part value utf8 of are here is =
    let (found, writable, valued, has) = member_lies text parts members name part utf8 of are here in
    subst (λ v. HasMember here.place name v members)
    (same_Some found value (sym (first_at here.place name found members of.distinct.0 has) ∙ is)) has

-- the place of the one comes first
comes_first : (j k : ℕ) (p q : MemberPlace) (parts : List MemberPlace) (members : MemberTrees) → AreParts 1 parts members
    → j < length parts → k < length parts → get_or parts j p ≡ p → get_or parts k q ≡ q → p.end ≤ q.value → (j ≡ k → ⊥)
    → j < k
comes_first j k p q parts members are within within₂ is is₂ ordered apart = elim (cases_Bool (ltb k j)) [
  | inl e ↦ let below : k < j = ltb-true k j e in
      let after = rises 1 k j q parts members are below within in
      let first = parts_within members 1 parts j q are within in
      let second = parts_within members 1 parts k q are within₂ in
      let p_is : get_or parts j q ≡ p = sym same ∙ is in
      let last : p.end ≤ (get_or parts k q).value = subst (λ (r : MemberPlace). p.end ≤ r.value) (sym is₂) ordered in
      let end : (get_or parts j q).end ≡ p.end = ap (λ (r : MemberPlace). r.end) p_is in
      absurd (omega (arith, after, first, second, last, end))
  | inr e ↦ let not_below = ltb-false k j e in omega (arith, not_below, apart)
]
  where
    same : get_or parts j p ≡ get_or parts j q
    same = get_or_default parts j p q within

pub two_exchanged : (text : List ℕ) (parts : List MemberPlace) (members : MemberTrees) (p q : MemberPlace) (n m : List ℕ) (v w : Tree)
    (f g : Tree → Tree) → IsUtf8 n → IsUtf8 m → bytes_eq n m ≡ false → IsCompactOf text (object members)
    → AreParts 1 parts members
    → IsPartNamed text parts (quoted n ++ colon ∷ []) p → IsPartNamed text parts (quoted m ++ colon ∷ []) q
    → p.end ≤ q.value → first_named n members ≡ Some v → first_named m members ≡ Some w
    → compact (object (changed_members n f (changed_members m g members))) ≡ take p.value text
    ++ (compact (f v) ++ (slice_range text p.end q.value ++ (compact (g w) ++ drop q.end text)))
two_exchanged text parts members p q n m v w f g utf8 utf8₂ apart of are here there ordered is is₂ =
    let j = here.place in
    let k = there.place in
    let has = has_named text parts members n p v utf8 of are here is in
    let has₂ = has_named text parts members m q w utf8₂ of are there is₂ in
    let below = comes_first j k p q parts members are here.within there.within here.is there.is ordered
    (λ e. names_apart (same_place k n m v w members (subst (λ i. HasMember i n v members) e has) has₂)) in
    let same : get_or parts j q ≡ p = get_or_default parts j q p here.within ∙ here.is in
    ap (λ l. compact (object l)) (changed_two members j k n m f g v w of.distinct.0 apart has has₂)
    ∙ (replaced_two text members parts j k q (f v) (g w) of.is are below there.within
    ∙ (ap (λ (r : MemberPlace). take r.value text ++ (compact (f v)
    ++ (slice_range text r.end (get_or parts k q).value ++ (compact (g w) ++ drop (get_or parts k q).end text))))
    same
    ∙ ap (λ (r : MemberPlace). take p.value text ++ (compact (f v)
    ++ (slice_range text p.end r.value ++ (compact (g w) ++ drop r.end text)))) there.is))
  where
    names_apart : n ≡ m → ⊥
    names_apart e = true_not_false (sym ((bytes_eq-Decides n m).1 e) ∙ apart)
      where
        true_not_false : true ≡ false → ⊥
        true_not_false e = cc

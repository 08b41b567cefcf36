-- Members of an object that are found by their names, in the parts of its compact text.
use Rattle.std.proofs.Common.{◌≡◌, ◌≢◌, ◌∙◌, ◌++◌, ◌<◌, ◌≤◌, ◌+◌, ℕ, zero, suc, Bool, true, false, if◌then◌else◌, List, [], ◌∷◌, Option, Some, None, IsUtf8, bytes_eq, length, get_or, slice_range, refl, sym, ap, subst, arith, length-append, inl, inr}
use Rattle.std.proofs.lemmas.Option.{same_Some}
use Rattle.std.proofs.lemmas.Bool.{cases_Bool}
use Rattle.std.proofs.lemmas.List.{append_cancel_right}
use Rattle.std.proofs.lemmas.Slice.Eq.{bytes_eq-Decides}
use Rattle.city_json.proofs.CompactLaws.{compact-tells}
use Rattle.city_json.proofs.MemberPlaces.{member_in_part}
use Rattle.city_json.specs.Bytes.{colon, open_brace, close_brace}
use Rattle.city_json.specs.Compact.{quoted, compact, compact_members, compact_more_members}
use Rattle.city_json.specs.CompactTexts.{IsCompactOf}
use Rattle.city_json.specs.Fits.{AreDistinctMembers, HasDistinctNames, IsDistinct, IsNewName, depth, members_depth}
use Rattle.city_json.specs.Members.{first_named}
use Rattle.city_json.specs.Parts.{AreParts, HasMember, IsMemberText, IsPartNamed, NotNamed}
use Rattle.city_json.specs.Tree.{Tree, string, object, MemberTrees, no_members, member}
use Rattle.city_json.specs.Writable.{IsWritable, AreWritableMembers}
use Rattle.city_json.specs.declared.compacting.places.MemberPlace.{MemberPlace}

pub equal_names : (other name : List ℕ) → other ≡ name → bytes_eq other name ≡ true
equal_names other name same = (bytes_eq-Decides other name).1 same

pub other_names : (other name : List ℕ) → other ≢ name → bytes_eq other name ≡ false
other_names other name apart = told (bytes_eq other name) (bytes_eq-Decides other name).0
  where
    told : (b : Bool) → (b ≡ true → other ≡ name) → b ≡ false
    told true is = absurd (apart (is refl))
    told false is = refl

-- the member at a place, where names differ
pub new_name : (k : ℕ) (another name : List ℕ) (value : Tree) (members : MemberTrees) → IsNewName another members
    → HasMember k name value members → another ≢ name
new_name k another name value no_members new has = absurd has
new_name zero another name value (member other v others) new has = λ same. new.0 (same ∙ sym has.0)
new_name (suc k) another name value (member other v others) new has = new_name k another name value others new.1 has

pub first_at : (k : ℕ) (name : List ℕ) (value : Tree) (members : MemberTrees) → HasDistinctNames members
    → HasMember k name value members → first_named name members ≡ Some value
first_at k name value no_members differ has = absurd has
first_at zero name value (member other v others) differ has =
    ap (λ b. if b then Some v else first_named name others) (equal_names other name has.0) ∙ ap Some has.1
first_at (suc k) name value (member other v others) differ has =
    ap (λ b. if b then Some v else first_named name others)
    (other_names other name (new_name k other name value others differ.0 has))
    ∙ first_at k name value others differ.1 has

pub writable_at : (k : ℕ) (name : List ℕ) (value : Tree) (members : MemberTrees) → AreWritableMembers members
    → HasMember k name value members → IsUtf8 name × IsWritable value
writable_at k name value no_members writable has = absurd has
writable_at zero name value (member other v others) writable has =
    (subst IsUtf8 has.0 writable.0, subst IsWritable has.1 writable.1)
writable_at (suc k) name value (member other v others) writable has = writable_at k name value others writable.2 has

pub same_name : (other name : List ℕ) → IsUtf8 other → IsUtf8 name → quoted other ++ colon ∷ [] ≡ quoted name ++ colon ∷ []
    → other ≡ name
same_name other name utf8 also same =
    same_text (compact-tells (string other) (string name) utf8 also
    (append_cancel_right (quoted other) (quoted name) (colon ∷ []) same))
  where
    content : Tree → List ℕ
    content (string text) = text
    content other = []

    same_text : {a b : List ℕ} → string a ≡ string b → a ≡ b
    same_text same = ap content same

-- ---- names that are not there
pub named_place : (name : List ℕ) (value : Tree) (members : MemberTrees) → first_named name members ≡ Some value → (k : ℕ)
    × HasMember k name value members
named_place name value no_members is = cc
named_place name value (member other v others) is = elim (cases_Bool (bytes_eq other name)) [
  | inl e ↦ (0, ((bytes_eq-Decides other name).0 e, same_Some _ _ (rw e at is)))
  | inr e ↦ let there = (named_place name value others) (rw e at is) in (suc there.0, there.1)
]

pub has_within : (k front : ℕ) (name : List ℕ) (value : Tree) (members : MemberTrees) (parts : List MemberPlace)
    → HasMember k name value members → AreParts front parts members → k < length parts
has_within k front name value no_members parts has are = absurd has
has_within k front name value (member n v o) [] has are = absurd are
has_within zero front name value (member n v o) (p ∷ ps) has are = omega arith
has_within (suc k) front name value (member n v o) (p ∷ ps) has are = let more =
    has_within k (p.end + 1) name value o ps has are.1 in omega (arith, more)

pub same_place : (k : ℕ) (name other : List ℕ) (value found : Tree) (members : MemberTrees)
    → HasMember k name value members → HasMember k other found members → name ≡ other
same_place k name other value found no_members has also = absurd has
same_place zero name other value found (member n v o) has also = sym has.0 ∙ also.0
same_place (suc k) name other value found (member n v o) has also = same_place k name other value found o has also

pub some_part : (parts : List MemberPlace) (k : ℕ) → k < length parts → MemberPlace
some_part [] k within = absurd (omega (arith, within))
some_part (p ∷ ps) k within = p

pub distinct_named : (name : List ℕ) (ms : MemberTrees) (value : Tree) → AreDistinctMembers ms
    → first_named name ms ≡ Some value → IsDistinct value
distinct_named name no_members value all is = cc
distinct_named name (member other v os) value all is =
    by (bytes_eq other name) refl (λ later. distinct_named name os value all.1 later)
  where
    by : (b : Bool) → bytes_eq other name ≡ b → (first_named name os ≡ Some value → IsDistinct value) → IsDistinct value
    by true e later = subst IsDistinct (same_Some _ _ (rw e at is)) all.0
    by false e later = later (rw e at is)

pub depth_named : (name : List ℕ) (value : Tree) (members : MemberTrees) → first_named name members ≡ Some value
    → depth value ≤ members_depth members
depth_named name value no_members is = cc
depth_named name value (member other v others) is = elim (cases_Bool (bytes_eq other name)) [
  | inl e ↦ let same : depth v ≡ depth value = ap depth (same_Some _ _ (rw e at is)) in omega (arith, same)
  | inr e ↦ let deep = (depth_named name value others) (rw e at is) in omega (arith, deep)
]

-- ---- where parts lie
pub parts_within : (members : MemberTrees) (front : ℕ) (parts : List MemberPlace) (k : ℕ) (d : MemberPlace)
    → AreParts front parts members → k < length parts
    → ((get_or parts k d).at ≤ (get_or parts k d).value)
    × ((get_or parts k d).value ≤ (get_or parts k d).end)
    × ((get_or parts k d).end ≤ front + length (compact_members members))
parts_within no_members front [] k d are within = absurd (omega arith)
parts_within no_members front (p ∷ ps) k d are within = absurd are
parts_within (member n v o) front [] k d are within = absurd are
parts_within (member n v o) front (p ∷ ps) zero d are within =
    let size = length-append (quoted n ++ colon ∷ compact v) (compact_more_members o) in
    let name = length-append (quoted n) (colon ∷ []) in
    let one = length-append (quoted n) (colon ∷ compact v) in
    (omega (arith, are.0.0, are.0.1), omega (arith, are.0.2), omega (arith, are.0.1, are.0.2, size, name, one))
parts_within (member n v no_members) front (p ∷ []) (suc k) d are within = absurd (omega arith)
parts_within (member n v no_members) front (p ∷ (q ∷ ps)) (suc k) d are within = absurd are.1
parts_within (member n v (member n' v' o)) front (p ∷ ps) (suc k) d are within =
    let rest = parts_within (member n' v' o) (p.end + 1) ps k d are.1 (omega arith) in
    let size = length-append (quoted n ++ colon ∷ compact v) (compact_more_members (member n' v' o)) in
    let name = length-append (quoted n) (colon ∷ []) in
    let one = length-append (quoted n) (colon ∷ compact v) in
    (rest.0, rest.1, omega (arith, rest.2, are.0.1, are.0.2, size, name, one))

pub parts_in_text : (text : List ℕ) (members : MemberTrees) (parts : List MemberPlace) (k : ℕ) (d : MemberPlace)
    → text ≡ compact (object members) → AreParts 1 parts members → k < length parts
    → ((get_or parts k d).at ≤ (get_or parts k d).value)
    × ((get_or parts k d).value ≤ (get_or parts k d).end)
    × ((get_or parts k d).end ≤ length text)
parts_in_text text members parts k d is are within =
    let there = parts_within members 1 parts k d are within in
    let size = ap length is ∙ ap suc (length-append (compact_members members) (close_brace ∷ [])) in
    (there.0, there.1, omega (arith, there.2, size))

-- ---- a member of a name
pub absent_there : (text : List ℕ) (parts : List MemberPlace) (members : MemberTrees) (given other : List ℕ)
    → text ≡ compact (object members) → AreParts 1 parts members → given ≡ quoted other ++ colon ∷ []
    → NotNamed text parts given (length parts) → first_named other members ≡ None
absent_there text parts members given other written are named none = by (first_named other members) refl
  where
    by : (found : Option Tree) → first_named other members ≡ found → first_named other members ≡ None
    by None e = e
    by (Some value) e =
        let there = named_place other value members e in
        let within : there.0 < length parts = has_within there.0 1 other value members parts there.1 are in
        let d : MemberPlace = some_part parts there.0 within in
        let lies = member_in_part members (open_brace ∷ []) (close_brace ∷ []) parts there.0 d are within in
        let inside = parts_in_text text members parts there.0 d written are within in
        let same : lies.name ≡ other = same_place there.0 lies.name other lies.value value members lies.has there.1 in
        absurd (none there.0 d within within inside.0 (omega (arith, inside.1, inside.2)) (ap
        (λ l. slice_range l (get_or parts there.0 d).at (get_or parts there.0 d).value) written
        ∙ (lies.named ∙ (ap (λ n. quoted n ++ colon ∷ []) same ∙ sym named))))

-- what lies in a part of this name
pub member_lies : (text : List ℕ) (parts : List MemberPlace) (members : MemberTrees) (name : List ℕ) (part : MemberPlace)
    → IsUtf8 name → IsCompactOf text (object members) → AreParts 1 parts members
    → (here : IsPartNamed text parts (quoted name ++ colon ∷ []) part) → (value : Tree) × IsWritable value
    × (slice_range text part.value part.end ≡ compact value) × HasMember here.place name value members
member_lies text parts members name part utf8 of are here =
    let k = here.place in
    let at = member_in_part members (open_brace ∷ []) (close_brace ∷ []) parts k part are here.within in
    let there : IsMemberText (compact (object members)) part k members =
    subst (λ p. IsMemberText (compact (object members)) p k members) here.is at in
    let can = writable_at k there.name there.value members of.writable there.has in
    let same = same_name there.name name can.0 utf8
    (sym there.named ∙ ap (λ l. slice_range l part.at part.value) (sym of.is) ∙ here.named) in (
      there.value,
      can.1,
      ap (λ l. slice_range l part.value part.end) of.is ∙ there.valued,
      subst (λ n. HasMember k n there.value members) same there.has,
    )

-- the first member of this name has this value, and the text is its compact text
pub record HasValue (members : MemberTrees) (name text : List ℕ) : Type 0 where
  pub value : Tree
  pub is : first_named name members ≡ Some value
  pub of : IsCompactOf text value

pub value_there : (text : List ℕ) (parts : List MemberPlace) (members : MemberTrees) (name : List ℕ)
    (part : MemberPlace) (given : List ℕ) → IsUtf8 name → IsCompactOf text (object members) → AreParts 1 parts members
    → IsPartNamed text parts (quoted name ++ colon ∷ []) part → given ≡ slice_range text part.value part.end
    → HasValue members name given
value_there text parts members name part given utf8 of are here lies =
    let (value, writable, valued, has) = member_lies text parts members name part utf8 of are here in
    let is = first_at here.place name value members of.distinct.0 has in
    let deep = depth_named name value members is in
    record {
      value = value;
      is = is;
      of = record {
        is = lies ∙ valued;
        writable = writable;
        distinct = distinct_named name members value of.distinct.1 is;
        within = omega (arith, deep, of.within);
      };
    }

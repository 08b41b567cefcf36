-- The header of a document, written member by member.
use Rattle.std.proofs.Common.{◌≡◌, ◌∙◌, ◌++◌, ◌<◌, ◌≤◌, ◌+◌, ◌&&◌, ℕ, zero, suc, Bool, true, false, List, [], ◌∷◌, Option, Some, None, IsUtf8, bytes_eq, length, is_some, get_or, slice_range, refl, sym, ap, subst, arith, append_assoc, append-nil, codes, length-append, not, inl, inr}
use Rattle.std.proofs.lemmas.Bool.{cases_Bool}
use Rattle.std.proofs.lemmas.Slice.Eq.{bytes_eq-Decides}
use Rattle.city_json.proofs.MemberPlaces.{member_in_part}
use Rattle.city_json.proofs.NamedMembers.{other_names, same_name, writable_at}
use Rattle.city_json.specs.Bytes.{colon, comma, close_brace, open_brace}
use Rattle.city_json.specs.Compact.{compact, compact_members, compact_more_members, quoted}
use Rattle.city_json.specs.CompactTexts.{IsCompactOf}
use Rattle.city_json.specs.Fits.{HasDistinctNames, IsNewName}
use Rattle.city_json.specs.Members.{first_named}
use Rattle.city_json.specs.Parts.{AreParts, HasMember}
use Rattle.city_json.specs.Tree.{Tree, array, no_items, object, MemberTrees, no_members, member}
use Rattle.city_json.specs.Writable.{AreWritableMembers, IsWritable}
use Rattle.city_json.specs.declared.compacting.places.MemberPlace.{MemberPlace}
use Rattle.city_feature.proofs.LineTexts.{utf8}
use Rattle.city_feature.specs.Changes.{changed_named, without_named}
use Rattle.city_families.specs.Cut.{header_tree}
use Rattle.city_families.proofs.MemberChanges.{kept, none_is_unchanged}
use Rattle.cut_on_text.specs.HeaderText.{header_members, value_in_header, members_text_after, members_from}
use Rattle.cut_on_text.proofs.TextMembers.{new_none}

-- ---- member by member, it is the document's header
-- no member of a name is there, so none is changed and none is dropped
same_members : {a b : MemberTrees} → object a ≡ object b → a ≡ b
same_members e = cc

unchanged : (name : List ℕ) (f : Tree → Tree) (members : MemberTrees) → first_named name members ≡ None
    → changed_named name f members ≡ members
unchanged name f members none = same_members (none_is_unchanged name f (object members) (ap is_some none))

none_dropped : (name : List ℕ) (members : MemberTrees) → IsNewName name members → without_named name members ≡ members
none_dropped name no_members new = refl
none_dropped name (member other value others) new =
    rw (other_names other name (λ same. new.0 (sym same))) (ap (member other value) (none_dropped name others new.1))

new_without : (other name : List ℕ) (members : MemberTrees) → IsNewName other members
    → IsNewName other (without_named name members)
new_without other name no_members new = tt
new_without other name (member n value others) new = elim (cases_Bool (bytes_eq n name)) [
  | inl e ↦ rw e new.1
  | inr e ↦ rw e (new.0, (new_without other name others new.1))
]

distinct_without : (name : List ℕ) (members : MemberTrees) → HasDistinctNames members
    → HasDistinctNames (without_named name members)
distinct_without name no_members differ = tt
distinct_without name (member n value others) differ = elim (cases_Bool (bytes_eq n name)) [
  | inl e ↦ rw e differ.1
  | inr e ↦ rw e (new_without n name others differ.0, (distinct_without name others differ.1))
]

abbrev no_object : Tree → Tree
no_object old = object no_members

abbrev no_array : Tree → Tree
no_array old = array no_items

emptied : (members : MemberTrees) → HasDistinctNames members
    → changed_named (codes "CityObjects") no_object (changed_named (codes "vertices") no_array members)
    ≡ header_members false members
emptied no_members differ = refl
emptied (member name value others) differ =
    by (bytes_eq name (codes "CityObjects")) (bytes_eq name (codes "vertices")) refl refl (emptied others differ.1)
  where
    is : (other : List ℕ) → bytes_eq name other ≡ true → first_named other others ≡ None
    is other e = new_none other others
        (subst (λ n. IsNewName n others) ((bytes_eq-Decides name other).0 e) differ.0)

    not_both : bytes_eq name (codes "CityObjects") ≡ true → bytes_eq name (codes "vertices") ≡ false
    not_both e = ap (λ n. bytes_eq n (codes "vertices")) ((bytes_eq-Decides name (codes "CityObjects")).0 e)

    by : (b c : Bool) → bytes_eq name (codes "CityObjects") ≡ b → bytes_eq name (codes "vertices") ≡ c
        → changed_named (codes "CityObjects") no_object (changed_named (codes "vertices") no_array others)
        ≡ header_members false others
        → changed_named (codes "CityObjects") no_object
        (changed_named (codes "vertices") no_array (member name value others))
        ≡ header_members false (member name value others)
    by true c e d later =
        rw (not_both e, e) (ap (member name (object no_members)) (sym (unchanged (codes "CityObjects") no_object
        (changed_named (codes "vertices") no_array others)
        (kept (codes "vertices") (codes "CityObjects") no_array (object others) refl ∙ is (codes "CityObjects") e))
        ∙ later))
    by false true e d later =
        rw (d, e) (ap (member name (array no_items)) (ap (changed_named (codes "CityObjects") no_object)
        (sym (unchanged (codes "vertices") no_array others (is (codes "vertices") d))) ∙ later))
    by false false e d later = rw (d, e) (ap (member name value) later)

dropped : (members : MemberTrees) → HasDistinctNames members
    → header_members false (without_named (codes "appearance") members) ≡ header_members true members
dropped no_members differ = refl
dropped (member name value others) differ = elim (cases_Bool (bytes_eq name (codes "appearance"))) [
  | inl e ↦ rw e (ap (header_members false) (sym (none_dropped (codes "appearance") others
      (subst (λ n. IsNewName n others) ((bytes_eq-Decides name (codes "appearance")).0 e) differ.0))) ∙ (dropped others differ.1))
  | inr e ↦ rw e (ap (member name (value_in_header name value)) (dropped others differ.1))
]

pub is_header_tree : (members : MemberTrees) (drops : Bool) → HasDistinctNames members
    → drops ≡ not (is_some (first_named (codes "geometry-templates") members))
    → object (header_members drops members) ≡ header_tree (object members)
is_header_tree members drops differ is =
    by (first_named (codes "geometry-templates") members) refl is
  where
    by : (found : Option Tree) → first_named (codes "geometry-templates") members ≡ found
        → drops ≡ not (is_some found) → object (header_members drops members) ≡ header_tree (object members)
    by None e is = rw (e, is) (ap object (sym (emptied (without_named (codes "appearance") members)
        (distinct_without (codes "appearance") members differ) ∙ dropped members differ)))
    by (Some templates) e is = rw (e, is) (ap object (sym (emptied members differ)))

writable_header : (drops : Bool) (members : MemberTrees) → AreWritableMembers members
    → AreWritableMembers (header_members drops members)
writable_header drops no_members all = tt
writable_header drops (member name value others) all = elim (cases_Bool (drops && bytes_eq name (codes "appearance"))) [
  | inl e ↦ rw e (writable_header drops others all.2)
  | inr e ↦ rw e (all.0, one _ _ refl refl, (writable_header drops others all.2))
]
  where
    one : (b c : Bool) → bytes_eq name (codes "CityObjects") ≡ b → bytes_eq name (codes "vertices") ≡ c
        → IsWritable (value_in_header name value)
    one true c e d = rw e tt
    one false true e d = rw (e, d) tt
    one false false e d = rw (e, d) all.1

pub header_writable : (members : MemberTrees) → HasDistinctNames members → AreWritableMembers members
    → IsWritable (header_tree (object members))
header_writable members differ writable =
    let drops = not (is_some (first_named (codes "geometry-templates") members)) in
    subst IsWritable (is_header_tree members drops differ refl) (writable_header drops members writable)

-- ---- written one after another
pub after_more : (line : List ℕ) (members : MemberTrees) → 1 < length line
    → members_text_after line members ≡ compact_more_members members
after_more [] members long = absurd (omega (arith, long))
after_more (first ∷ []) members long = absurd (omega (arith, long))
after_more (first ∷ (second ∷ more)) members long = refl

-- the name of a member is told by what stands before its value
pub named_as : (name other given marked : List ℕ) → IsUtf8 name → IsUtf8 other → given ≡ quoted name ++ colon ∷ []
    → marked ≡ quoted other ++ colon ∷ [] → given ≡ marked → bytes_eq name other ≡ true
named_as name other given marked utf8 also is marks same =
    (bytes_eq-Decides name other).1 (same_name name other utf8 also (sym is ∙ (same ∙ marks)))

pub named_other : (name other given marked : List ℕ) → given ≡ quoted name ++ colon ∷ []
    → marked ≡ quoted other ++ colon ∷ [] → (given ≡ marked → ⊥) → bytes_eq name other ≡ false
named_other name other given marked is marks apart =
    other_names name other (λ same. apart (is ∙ (ap (λ n. quoted n ++ colon ∷ []) same ∙ sym marks)))

pub same_test : (name other given marked : List ℕ) → IsUtf8 name → IsUtf8 other → given ≡ quoted name ++ colon ∷ []
    → marked ≡ quoted other ++ colon ∷ [] → bytes_eq given marked ≡ bytes_eq name other
same_test name other given marked utf8 also is marks = elim (cases_Bool (bytes_eq given marked)) [
  | inl e ↦ e ∙ sym (named_as name other given marked utf8 also is marks ((bytes_eq-Decides given marked).0 e))
  | inr e ↦ e ∙ sym (named_other name other given marked is marks
      (λ same. is_not e ((bytes_eq-Decides given marked).1 same)))
]
  where
    is_not : {b : Bool} → b ≡ false → b ≡ true → ⊥
    is_not e is = cc

-- a member is written after what comes before it
pub member_written : (name : List ℕ) (value : Tree) (drops : Bool) (others : MemberTrees)
    (line before marked given shown : List ℕ) → (drops && bytes_eq name (codes "appearance")) ≡ false
    → line ++ members_text_after line (member name (value_in_header name value) (header_members drops others))
    ≡ before ++ compact_members (member name (value_in_header name value) (header_members drops others))
    → 0 < length before → marked ≡ quoted name ++ colon ∷ [] → given ≡ compact (value_in_header name value)
    → shown ≡ (before ++ marked) ++ given
    → line ++ members_text_after line (header_members drops (member name value others))
    ≡ shown ++ members_text_after shown (header_members drops others)
member_written name value drops others line before marked given shown stays begun some marks is written =
    rw stays (begun ∙ (regroup before (quoted name) (compact (value_in_header name value))
    (compact_more_members (header_members drops others))
    ∙ (ap (λ l. l ++ compact_more_members (header_members drops others))
    (ap (λ m. (before ++ m) ++ compact (value_in_header name value)) (sym marks)
    ∙ (ap (λ v. (before ++ marked) ++ v) (sym is) ∙ sym written))
    ∙ ap (λ l. shown ++ l) (sym (after_more shown (header_members drops others) long)))))
  where
    regroup : (l q v r : List ℕ) → l ++ ((q ++ colon ∷ v) ++ r) ≡ ((l ++ (q ++ colon ∷ [])) ++ v) ++ r
    regroup l q v r = simp append_assoc

    long : 1 < length shown
    long = omega (
      arith,
      some,
      ap length written,
      length-append (before ++ marked) given,
      length-append before marked,
      ap length marks,
      length-append (quoted name) (colon ∷ []),
    )

pub comma_written : (line shown : List ℕ) (name : List ℕ) (value : Tree) (others : MemberTrees) → 1 < length line
    → shown ≡ line ++ comma ∷ []
    → line ++ members_text_after line (member name value others) ≡ shown ++ compact_members (member name value others)
comma_written line shown name value others long is =
    ap (λ l. line ++ l) (after_more line (member name value others) long)
    ∙ (regroup line (compact_members (member name value others))
    ∙ ap (λ l. l ++ compact_members (member name value others)) (sym is))
  where
    regroup : (l r : List ℕ) → l ++ comma ∷ r ≡ (l ++ comma ∷ []) ++ r
    regroup l r = simp append_assoc

-- ---- the members of the document in turn
pub next_member : (k : ℕ) (name : List ℕ) (value : Tree) (members : MemberTrees) → HasMember k name value members
    → members_from k members ≡ member name value (members_from (suc k) members)
next_member k name value no_members has = absurd has
next_member zero name value (member other found others) has =
    ap (λ n. member n found others) has.0 ∙ ap (λ v. member name v others) has.1
next_member (suc k) name value (member other found others) has = next_member k name value others has

pub no_more_members : (k front : ℕ) (parts : List MemberPlace) (members : MemberTrees) → AreParts front parts members
    → length parts ≤ k → members_from k members ≡ no_members
no_more_members zero front [] no_members are past = refl
no_more_members zero front (p ∷ ps) members are past = absurd (omega (arith, past))
no_more_members (suc k) front parts no_members are past = refl
no_more_members (suc k) front [] (member name value others) are past = absurd are
no_more_members (suc k) front (p ∷ ps) (member name value others) are past =
    no_more_members k (p.end + 1) ps others are.1 (omega (arith, past))
no_more_members zero front [] (member name value others) are past = absurd are

-- what was written of the members so far, and what is left of them, make the whole
abbrev pub IsHeaderSoFar : Bool → MemberTrees → ℕ → List ℕ → Type 0
IsHeaderSoFar drops members k line =
    line ++ members_text_after line (header_members drops (members_from k members))
    ≡ open_brace ∷ compact_members (header_members drops members)

pub begun : (none line : List ℕ) → line ≡ none ++ open_brace ∷ [] → 0 < length line
begun none line is = omega (arith, ap length is, length-append none (open_brace ∷ []))

pub header_begins : (drops : Bool) (members : MemberTrees) (none line : List ℕ) → none ≡ []
    → line ≡ none ++ open_brace ∷ [] → IsHeaderSoFar drops members 0 line
header_begins drops members none line empty is = rw (is ∙ ap (λ l. l ++ open_brace ∷ []) empty) refl

pub header_goes_on : (text : List ℕ) (members : MemberTrees) (parts : List MemberPlace) (k : ℕ) (d : MemberPlace)
    (drops : Bool) (line line' : List ℕ) → IsCompactOf text (object members) → AreParts 1 parts members
    → k < length parts → IsHeaderSoFar drops members k line
    → ((named : List ℕ) (value : Tree) (others : MemberTrees) → IsUtf8 named
    → slice_range text (get_or parts k d).at (get_or parts k d).value ≡ quoted named ++ colon ∷ []
    → slice_range text (get_or parts k d).value (get_or parts k d).end ≡ compact value
    → line ++ members_text_after line (header_members drops (member named value others))
    ≡ line' ++ members_text_after line' (header_members drops others))
    → IsHeaderSoFar drops members (k + 1) line'
header_goes_on text members parts k d drops line line' of are within so_far written =
    let lies = member_in_part members (open_brace ∷ []) (close_brace ∷ []) parts k d are within in
    let next = next_member k lies.name lies.value members lies.has in
    let step = written lies.name lies.value (members_from (suc k) members)
    (writable_at k lies.name lies.value members of.writable lies.has).0
    (ap (λ l. slice_range l (get_or parts k d).at (get_or parts k d).value) of.is ∙ lies.named)
    (ap (λ l. slice_range l (get_or parts k d).value (get_or parts k d).end) of.is ∙ lies.valued) in
    let one : suc k ≡ k + 1 = omega arith in
    subst (λ n. IsHeaderSoFar drops members n line') one
    (sym step ∙ (ap (λ m. line ++ members_text_after line (header_members drops m)) (sym next) ∙ so_far))

pub header_ends : (drops : Bool) (members : MemberTrees) (parts : List MemberPlace) (k : ℕ) (line text : List ℕ)
    → AreParts 1 parts members → length parts ≤ k → IsHeaderSoFar drops members k line
    → text ≡ line ++ close_brace ∷ [] → text ≡ compact (object (header_members drops members))
header_ends drops members parts k line text are past so_far is =
    is ∙ ap (λ l. l ++ close_brace ∷ []) (nothing line
    ∙ (ap (λ m. line ++ members_text_after line (header_members drops m)) (sym (no_more_members k 1 parts members are past))
    ∙ so_far))
  where
    nothing : (line : List ℕ) → line ≡ line ++ members_text_after line no_members
    nothing [] = refl
    nothing (first ∷ []) = refl
    nothing (first ∷ (second ∷ more)) = sym (append-nil (first ∷ (second ∷ more)))

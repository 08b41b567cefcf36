-- Objects that are copied with their geometries and their addresses, in whichever order these stand.
use Rattle.std.proofs.Common.{◌≡◌, ◌∙◌, ◌++◌, ◌<◌, ◌≤◌, ◌+◌, ◌-◌, ℕ, false, bytes_eq, List, [], ◌∷◌, Option, Some, None, IfSome, IsUtf8, inl, inr, map, unwrap_or, length, length-drop, take, take_all, drop, slice_index, slice_range, refl, sym, ap, subst, arith, append_assoc, append-nil, codes}
use Rattle.std.proofs.lemmas.Grind.{flat_map-append}
use Rattle.std.proofs.lemmas.List.{map-append, take_at}
use Rattle.std.proofs.lemmas.List.Elements.{Contains-append_left}
use Rattle.std.specs.List.{flat_map, AllByRecursion}
use Rattle.city_json.specs.Compact.{compact}
use Rattle.city_json.specs.Members.{first_named, member_of}
use Rattle.city_json.specs.Parts.{AreParts}
use Rattle.city_json.specs.Tree.{Tree, MemberTrees, null, object}
use Rattle.city_json.specs.declared.compacting.places.MemberPlace.{MemberPlace}
use Rattle.city_feature.proofs.LineTexts.{utf8}
use Rattle.city_feature.specs.Shapes.{IsArray, WhereThere}
use Rattle.city_families.specs.Boundaries.{IsAddress, IsBounded, IsGeometry, address_boundary, boundaries, changed_members, own_boundary, relabelled_addresses, relabelled_geometries, relabelled_object}
use Rattle.city_families.specs.Copied.{Copies, Numbers}
use Rattle.cut_on_text.specs.Holders.{AreHeld, AreHeldIn, boundary_in, copied_to, part_end, held_uses, name_of, other_than, part_in, relabelled_held, uses_in}
use Rattle.city_families.specs.Items.{items_of}
use Rattle.city_families.specs.Leaves.{leaves}
use Rattle.city_families.specs.Numbered.{AreNumbered}
use Rattle.cut_on_text.specs.Overviews.{HasHolders, IsFoundIn, IsHolderPart}
use Rattle.cut_on_text.specs.NumberWalks.{NumberLabelled}
use Rattle.city_families.specs.Points.{CountsUp}
use Rattle.cut_on_text.specs.Walks.{Labelling, Walks, walks_both, walks_so, walks_text}
use Rattle.city_families.specs.declared.numbering.Numbering.{Numbering}
use Rattle.city_json.specs.CompactTexts.{IsCompactOf}
use Rattle.cut_on_text.specs.declared.on_text.holders.HeldParts.{HeldParts}
use Rattle.cut_on_text.specs.declared.on_text.holders.Holder.{Holder}
use Rattle.cut_on_text.specs.declared.on_text.holders.Holder.TheVariants.{Geometry, Address}
use Rattle.city_families.proofs.CopiedTexts.{copies_so, extends_same, extends_trans}
use Rattle.cut_on_text.proofs.NumberedWalks.{numbered_walk}
use Rattle.cut_on_text.proofs.TextCopies.{HeldMade, ObjectMade}
use Rattle.cut_on_text.proofs.TextMembers.{changed_absent, changed_with, member_there}
use Rattle.cut_on_text.proofs.TwoMembers.{changed_either, two_exchanged}

-- ---- vertices that are noted again
counts_split : (next end : ℕ) (ks js : List ℕ) → CountsUp next (ks ++ js) end → (m : ℕ) × CountsUp next ks m
    × CountsUp m js end
counts_split next end [] js counts = (next, refl, counts)
counts_split next end (k ∷ ks) js (inl c) = let more = counts_split next end ks js c.1 in
    (more.0, inl (c.0, more.1), more.2)
counts_split next end (k ∷ ks) js (inr c) = let more = counts_split (next + 1) end ks js c.1 in
    (more.0, inr (c.0, more.1), more.2)

counts_rise : (next end : ℕ) (ks : List ℕ) → CountsUp next ks end → next ≤ end
counts_rise next end [] counts = omega (arith, counts)
counts_rise next end (k ∷ ks) (inl c) = counts_rise next end ks c.1
counts_rise next end (k ∷ ks) (inr c) = let more = counts_rise (next + 1) end ks c.1 in omega (arith, more)

counts_below : (next end : ℕ) (ks : List ℕ) → CountsUp next ks end → AllByRecursion (λ k. k < end) ks
counts_below next end [] counts = tt
counts_below next end (k ∷ ks) (inl c) = let rise = counts_rise next end ks c.1 in
    (omega (arith, c.0, rise), counts_below next end ks c.1)
counts_below next end (k ∷ ks) (inr c) = let rise = counts_rise (next + 1) end ks c.1 in
    (omega (arith, c.0, rise), counts_below (next + 1) end ks c.1)

counts_no_more : (m end : ℕ) (js : List ℕ) → CountsUp m js end → AllByRecursion (λ j. j < m) js → m ≡ end
counts_no_more m end [] counts below = counts
counts_no_more m end (j ∷ js) (inl c) below = counts_no_more m end js c.1 below.1
counts_no_more m end (j ∷ js) (inr c) below = absurd (omega (arith, c.0, below.0))

all_left : (P : ℕ → Type 0) (xs ys : List ℕ) → AllByRecursion P (xs ++ ys) → AllByRecursion P xs
all_left P [] ys all = tt
all_left P (x ∷ xs) ys all = (all.0, all_left P xs ys all.1)

all_right : (P : ℕ → Type 0) (xs ys : List ℕ) → AllByRecursion P (xs ++ ys) → AllByRecursion P ys
all_right P [] ys all = all
all_right P (x ∷ xs) ys all = all_right P xs ys all.1

counts_again : (end : ℕ) (a b c : List ℕ) → CountsUp 0 (((a ++ b) ++ c) ++ b) end → CountsUp 0 ((a ++ b) ++ c) end
counts_again end a b c counts =
    let two = counts_split 0 end ((a ++ b) ++ c) b counts in
    let below = counts_below 0 two.0 ((a ++ b) ++ c) two.1 in
    let here = all_right (λ k. k < two.0) a b (all_left (λ k. k < two.0) (a ++ b) c below) in
    subst (λ n. CountsUp 0 ((a ++ b) ++ c) n) (counts_no_more two.0 end b two.2 here) two.1

numbered_once : (a b c t o : List ℕ) → AreNumbered (((a ++ b) ++ c) ++ b) t o → AreNumbered ((a ++ b) ++ c) t o
numbered_once a b c t o all = record {
  inside = all.inside;
  stands = all.stands;
  known = λ k there. all.known k (Contains-append_left ((a ++ b) ++ c) b k there);
  in_order =
      let f : ℕ → ℕ = λ k. slice_index t k in
      let three : map f ((a ++ b) ++ c) ≡ (map f a ++ map f b) ++ map f c =
      map-append f (a ++ b) c ∙ ap (λ l. l ++ map f c) (map-append f a b) in
      let four : map f (((a ++ b) ++ c) ++ b) ≡ ((map f a ++ map f b) ++ map f c) ++ map f b =
      map-append f ((a ++ b) ++ c) b ∙ ap (λ l. l ++ map f b) three in
      subst (λ l. CountsUp 0 l (length o)) (sym three)
      (counts_again (length o) (map f a) (map f b) (map f c)
      (subst (λ l. CountsUp 0 l (length o)) four all.in_order));
}

copies_numbered : (t o t₁ o₁ line t' o' line' first second : List ℕ) (own : (List ℕ → List ℕ) → List ℕ)
    → Numbers t o t₁ o₁ first → Copies t₁ o₁ line t' o' line' (second ++ first) own
    → Copies t o line t' o' line' (first ++ second) own
copies_numbered t o t₁ o₁ line t' o' line' first second own before copies = record {
  extends = extends_trans t o t₁ o₁ t' o' before.extends copies.extends;
  numbered = λ uses n.
      let all : AreNumbered ((uses ++ first) ++ (second ++ first)) t' o' =
      copies.numbered (uses ++ first) (before.numbered uses n) in
      let once = numbered_once uses first second t' o'
      (subst (λ l. AreNumbered l t' o') (sym (append_assoc (uses ++ first) second first)) all) in
      subst (λ l. AreNumbered l t' o') (append_assoc uses first second) once;
  written = copies.written;
}

-- ---- one member
pub name_utf8 : (holder : Holder) → IsUtf8 (name_of holder)
name_utf8 Geometry = utf8 (codes "geometry") refl
name_utf8 Address = utf8 (codes "address") refl

pub is_found : (holder : Holder) (text : List ℕ) (parts : List MemberPlace) (found : Option MemberPlace) (part : MemberPlace)
    → found ≡ Some part → IsHolderPart holder text parts found → IsFoundIn holder text parts part
is_found holder text parts found part is told = subst (IsHolderPart holder text parts) is told

pub holder_part : (holder : Holder) (text : List ℕ) (held : HeldParts) → (has : HasHolders text held)
    → IsHolderPart holder text has.parts (part_in holder held)
holder_part Geometry text held has = has.geometry
holder_part Address text held has = has.address

-- what is made of an object's text up to the end of a member
abbrev pub MemberMade : {S : Type 0} → Labelling S → List ℕ → Holder → ℕ → ℕ → Option MemberPlace → S → List ℕ → S → List ℕ → Type 0
MemberMade L text holder count from part s line s' line' = (parts : List MemberPlace) (members : MemberTrees)
    → IsCompactOf text (object members) → AreParts 1 parts members → IsHolderPart holder text parts part
    → AreHeldIn holder count (object members)
    × Walks L s line s' line' (uses_in holder (object members))
    (λ change. copied_to text from part holder change (object members))

pub none_made : {S : Type 0} {L : Labelling S} (text : List ℕ) (holder : Holder) (count from : ℕ) (s : S) (line : List ℕ)
    → MemberMade L text holder count from None s line s line
none_made text holder count from s line = λ parts members of are nowhere.
    let none = nowhere members of are in (
      subst (WhereThere (AreHeld holder count)) (sym none) tt,
      walks_so s line s line [] (uses_in holder (object members)) (λ change. []) (λ change. [])
          (walks_text s line line [] (sym (append-nil line)))
          (ap (λ there. flat_map leaves (flat_map (boundary_in holder) (items_of there))) (sym none)) (λ change. refl),
    )

pub one_made : {S : Type 0} {L : Labelling S} (text : List ℕ) (holder : Holder) (count from : ℕ) (part : MemberPlace)
    (given front : List ℕ) (s : S) (line line₁ : List ℕ) (s' : S) (line₂ : List ℕ)
    → given ≡ slice_range text part.value part.end → front ≡ slice_range text from part.value → line₁ ≡ line ++ front
    → ((value : Tree) → IsCompactOf given value → HeldMade L holder count s line₁ s' line₂ value)
    → MemberMade L text holder count from (Some part) s line s' line₂
one_made text holder count from part given front s line line₁ s' line₂ lies begins more made =
    λ parts members of are named.
    let found = member_there text parts members (name_of holder) part given (name_utf8 holder) of are named lies in
    let inner = made found.value found.of in
    let before = slice_range text from part.value in
    let own : Tree → (List ℕ → List ℕ) → List ℕ = λ value change. before ++ compact (relabelled_held holder change value) in
    let walk = walks_both s line s line₁ s' line₂ [] (held_uses holder found.value) (λ change. before)
    (λ change. compact (relabelled_held holder change found.value))
    (walks_text s line line₁ before (more ∙ ap (λ l. line ++ l) begins)) inner.1 in (
      subst (WhereThere (AreHeld holder count)) (sym found.is) inner.0,
      walks_so s line s' line₂ (held_uses holder found.value) (uses_in holder (object members)) (own found.value)
          (λ change. copied_to text from (Some part) holder change (object members)) walk
          (ap (λ there. flat_map leaves (flat_map (boundary_in holder) (items_of there))) (sym found.is))
          (λ change. ap (λ there. own (unwrap_or there null) change) (sym found.is)),
    )

pub made_again : {S : Type 0} {L : Labelling S} (text : List ℕ) (holder other : Holder) (count count₂ from from₂ : ℕ)
    (part part₂ : Option MemberPlace) (s : S) (line : List ℕ) (s' : S) (line' : List ℕ) → other ≡ holder → count₂ ≡ count
    → from₂ ≡ from → part₂ ≡ part → MemberMade L text other count₂ from₂ part₂ s line s' line'
    → MemberMade L text holder count from part s line s' line'
made_again {S} {L} text holder other count count₂ from from₂ part part₂ s line s' line' same long begins is made =
    subst (λ h. MemberMade L text h count from part s line s' line') same
    (subst (λ n. MemberMade L text other n from part s line s' line') long
    (subst (λ f. MemberMade L text other count₂ f part s line s' line') begins
    (subst (λ p. MemberMade L text other count₂ from₂ p s line s' line') is made)))

-- ---- the text of an object with other labels, in the order in which the members stand
names_apart : (holder : Holder) → bytes_eq (name_of holder) (name_of (other_than holder)) ≡ false
names_apart Geometry = refl
names_apart Address = refl

other_apart : (holder : Holder) → bytes_eq (name_of (other_than holder)) (name_of holder) ≡ false
other_apart Geometry = refl
other_apart Address = refl

abbrev relabelled_in_turn : Holder → (List ℕ → List ℕ) → MemberTrees → MemberTrees
relabelled_in_turn first change members = changed_members (name_of first) (relabelled_held first change)
    (changed_members (name_of (other_than first)) (relabelled_held (other_than first) change) members)

either : (first : Holder) (change : List ℕ → List ℕ) (members : MemberTrees)
    → relabelled_in_turn first change members ≡ relabelled_in_turn Geometry change members
either Geometry change members = refl
either Address change members = changed_either (codes "address") (codes "geometry") (relabelled_addresses change)
    (relabelled_geometries change) members refl refl

from_front : (text : List ℕ) (n : ℕ) → slice_range text 0 n ≡ take n text
from_front text n = let whole : n - 0 ≡ n = omega arith in ap (λ k. take k text) whole

module _ (text : List ℕ) (parts : List MemberPlace) (members : MemberTrees) (of : IsCompactOf text (object members))
    (are : AreParts 1 parts members) (change : List ℕ → List ℕ) where
  abbrev up_to : ℕ → Option MemberPlace → Holder → List ℕ
  up_to from part holder = copied_to text from part holder change (object members)

  abbrev relabelled_one : Holder → MemberTrees → MemberTrees
  relabelled_one holder others = changed_members (name_of holder) (relabelled_held holder change) others

  one_exchanged : (holder : Holder) (part : MemberPlace) → IsFoundIn holder text parts part
      → up_to 0 (Some part) holder ++ drop part.end text ≡ compact (object (relabelled_one holder members))
  one_exchanged holder part named =
      let found = member_there text parts members (name_of holder) part (slice_range text part.value part.end)
      (name_utf8 holder) of are named refl in
      let front = slice_range text 0 part.value in
      ap (λ there. (front ++ compact (relabelled_held holder change (unwrap_or there null))) ++ drop part.end text)
      found.is
      ∙ (append_assoc front (compact (relabelled_held holder change found.value)) (drop part.end text)
      ∙ (ap (λ l. l ++ (compact (relabelled_held holder change found.value) ++ drop part.end text))
      (from_front text part.value) ∙ (sym (found.exchanged (relabelled_held holder change found.value)) ∙ ap (λ m. compact (object m))
      (sym (changed_with (name_of holder) (relabelled_held holder change) found.value members of.distinct.0
      found.is)))))

  four : (a b c d e : List ℕ) → ((a ++ b) ++ (c ++ d)) ++ e ≡ a ++ (b ++ (c ++ (d ++ e)))
  four a b c d e = simp append_assoc

  object_copied : (first : Holder) (p q : Option MemberPlace) → IsHolderPart first text parts p
      → IsHolderPart (other_than first) text parts q → IfSome q (λ part. part_end 0 p ≤ part.value)
      → (up_to 0 p first ++ up_to (part_end 0 p) q (other_than first)) ++ drop (part_end (part_end 0 p) q) text
      ≡ compact (object (relabelled_in_turn first change members))
  object_copied first None None here there ordered =
      let others = changed_absent (name_of (other_than first)) (relabelled_held (other_than first) change) members
      (there members of are) in
      of.is ∙ ap (λ m. compact (object m)) (sym (ap (relabelled_one first) others
      ∙ changed_absent (name_of first) (relabelled_held first change) members (here members of are)))
  object_copied first (Some p) None here there ordered =
      ap (λ l. l ++ drop p.end text) (append-nil (up_to 0 (Some p) first)) ∙ (one_exchanged first p here
      ∙ ap (λ m. compact (object (relabelled_one first m))) (sym (changed_absent (name_of (other_than first))
      (relabelled_held (other_than first) change) members (there members of are))))
  object_copied first None (Some q) here there ordered = one_exchanged (other_than first) q there
      ∙ ap (λ m. compact (object m)) (sym (changed_either (name_of first) (name_of (other_than first))
      (relabelled_held first change) (relabelled_held (other_than first) change) members (names_apart first)
      (other_apart first) ∙ ap (relabelled_one (other_than first)) (changed_absent (name_of first)
      (relabelled_held first change) members (here members of are))))
  object_copied first (Some p) (Some q) here there ordered =
      let second = other_than first in
      let v = member_there text parts members (name_of first) p (slice_range text p.value p.end) (name_utf8 first) of are
      here refl in
      let w = member_there text parts members (name_of second) q (slice_range text q.value q.end) (name_utf8 second) of
      are there refl in
      let front = slice_range text 0 p.value in
      let middle = slice_range text p.end q.value in
      ap (λ m. ((front ++ compact (relabelled_held first change (unwrap_or m null)))
      ++ up_to p.end (Some q) second) ++ drop q.end text) v.is
      ∙ (ap (λ m. ((front ++ compact (relabelled_held first change v.value))
      ++ (middle ++ compact (relabelled_held second change (unwrap_or m null)))) ++ drop q.end text) w.is
      ∙ (four front (compact (relabelled_held first change v.value)) middle
      (compact (relabelled_held second change w.value)) (drop q.end text)
      ∙ (ap (λ l. l ++ (compact (relabelled_held first change v.value) ++ (middle
      ++ (compact (relabelled_held second change w.value) ++ drop q.end text)))) (from_front text p.value)
      ∙ sym (two_exchanged text parts members p q (name_of first) (name_of second) v.value w.value
      (relabelled_held first change) (relabelled_held second change) (name_utf8 first) (name_utf8 second)
      (names_apart first) of are here there ordered v.is w.is))))

-- ---- an object
-- for each object, it is enough to know what is made of its members
pub of_object : (P : Tree → Type 0) (text : List ℕ) (parts : List MemberPlace)
    → ((value : Tree) → IsCompactOf text value → (members : MemberTrees) × (value ≡ object members)
    × AreParts 1 parts members)
    → ((members : MemberTrees) → IsCompactOf text (object members) → AreParts 1 parts members → P (object members))
    → (value : Tree) → IsCompactOf text value → P value
of_object P text parts there made value of =
    let (members, is, are) = there value of in
    subst P (sym is) (made members (subst (IsCompactOf text) is of) are)

both_bounded : (count : ℕ) (there other : Option Tree) → WhereThere (AreHeld Geometry count) there
    → WhereThere (AreHeld Address count) other
    → WhereThere IsArray there × AllByRecursion (IsGeometry count) (items_of there)
    × AllByRecursion (IsAddress count) (items_of other)
both_bounded count None None geometry address = (tt, tt, tt)
both_bounded count None (Some w) geometry address = (tt, tt, address.1)
both_bounded count (Some v) None geometry address = (geometry.0, geometry.1, tt)
both_bounded count (Some v) (Some w) geometry address = (geometry.0, geometry.1, address.1)

bounded : (first : Holder) (count : ℕ) (members : MemberTrees) → AreHeldIn first count (object members)
    → AreHeldIn (other_than first) count (object members) → IsBounded count (object members)
bounded Geometry count members one other =
    both_bounded count (first_named (codes "geometry") members) (first_named (codes "address") members) one other
bounded Address count members one other =
    both_bounded count (first_named (codes "geometry") members) (first_named (codes "address") members) other one

-- the vertices in the order in which its members stand
abbrev pub WalkedFrom : {S : Type 0} → Labelling S → Holder → ℕ → S → List ℕ → S → List ℕ → Tree → Type 0
WalkedFrom L first count s line s' line' value = IsBounded count value
    × Walks L s line s' line' (uses_in first value ++ uses_in (other_than first) value)
    (λ change. compact (relabelled_object change value))

both_walked : {S : Type 0} {L : Labelling S} (first : Holder) (count : ℕ) (text : List ℕ) (held : HeldParts) (s : S)
    (line : List ℕ) (s₁ : S) (line₁ : List ℕ) (s₂ : S) (line₂ line₃ : List ℕ) → HasHolders text held
    → MemberMade L text first count 0 (part_in first held) s line s₁ line₁
    → MemberMade L text (other_than first) count (part_end 0 (part_in first held)) (part_in (other_than first) held) s₁ line₁
    s₂ line₂ → IfSome (part_in (other_than first) held) (λ part. part_end 0 (part_in first held) ≤ part.value)
    → line₃ ≡ line₂ ++ drop (part_end (part_end 0 (part_in first held)) (part_in (other_than first) held)) text
    → (value : Tree) → IsCompactOf text value → WalkedFrom L first count s line s₂ line₃ value
both_walked {L = L} first count text held s line s₁ line₁ s₂ line₂ line₃ has one two ordered back =
    of_object (WalkedFrom L first count s line s₂ line₃) text has.parts has.listed (λ members of are.
    let p = part_in first held in
    let q = part_in (other_than first) held in
    let here = one has.parts members of are (holder_part first text held has) in
    let there = two has.parts members of are (holder_part (other_than first) text held has) in
    let uses = uses_in first (object members) in
    let uses₂ = uses_in (other_than first) (object members) in
    let own : (List ℕ → List ℕ) → List ℕ = λ change. copied_to text 0 p first change (object members) in
    let own₂ : (List ℕ → List ℕ) → List ℕ = λ change.
    copied_to text (part_end 0 p) q (other_than first) change (object members) in
    let rest = drop (part_end (part_end 0 p) q) text in (
      bounded first count members here.0 there.0,
      walks_so s line s₂ line₃ ((uses ++ uses₂) ++ []) (uses ++ uses₂) (λ change. (own change ++ own₂ change) ++ rest)
          (λ change. compact (relabelled_object change (object members)))
          (walks_both s line s₂ line₂ s₂ line₃ (uses ++ uses₂) [] (λ change. own change ++ own₂ change) (λ change. rest)
          (walks_both s line s₁ line₁ s₂ line₂ uses uses₂ own own₂ here.1 there.1) (walks_text s₂ line₂ line₃ rest back))
          (append-nil (uses ++ uses₂))
          (λ change. object_copied text has.parts members of are change first p q (holder_part first text held has)
          (holder_part (other_than first) text held has) ordered
          ∙ ap (λ m. compact (object m)) (either first change members)),
    ))

to_end : (text : List ℕ) (at : ℕ) → slice_range text at (length text) ≡ drop at text
to_end text at = take_all (length text - at) (drop at text) (omega (arith, length-drop at text))

pub object_walked : {S : Type 0} {L : Labelling S} (first second : Holder) (count count₂ : ℕ) (text : List ℕ)
    (held : HeldParts) (p q : Option MemberPlace) (middle end : ℕ) (back : List ℕ) (s : S) (line : List ℕ) (s₁ : S)
    (line₁ : List ℕ) (s₂ : S) (line₂ line₃ : List ℕ) → HasHolders text held → second ≡ other_than first
    → p ≡ part_in first held → q ≡ part_in second held → count₂ ≡ count → middle ≡ part_end 0 p → end ≡ part_end middle q
    → MemberMade L text first count 0 p s line s₁ line₁ → MemberMade L text second count₂ middle q s₁ line₁ s₂ line₂
    → IfSome q (λ part. middle ≤ part.value) → back ≡ slice_range text end (length text) → line₃ ≡ line₂ ++ back
    → (value : Tree) → IsCompactOf text value → WalkedFrom L first count s line s₂ line₃ value
object_walked first second count count₂ text held p q middle end back s line s₁ line₁ s₂ line₂ line₃ has other is is₂ long
    begins ends one two ordered rest more =
    let q' = part_in (other_than first) held in
    let q_is : q ≡ q' = is₂ ∙ ap (λ h. part_in h held) other in
    let middle_is : middle ≡ part_end 0 (part_in first held) = begins ∙ ap (part_end 0) is in
    both_walked first count text held s line s₁ line₁ s₂ line₂ line₃ has
    (made_again text first first count count 0 0 (part_in first held) p s line s₁ line₁ refl refl refl is one)
    (made_again text (other_than first) second count count₂ (part_end 0 (part_in first held)) middle q' q s₁ line₁ s₂ line₂
    other long middle_is q_is two)
    (subst (λ m. IfSome q' (λ part. m ≤ part.value)) middle_is
    (subst (λ o. IfSome o (λ part. middle ≤ part.value)) q_is ordered))
    (more ∙ ap (λ l. line₂ ++ l) (rest ∙ (to_end text end ∙ ap (λ n. drop n text) (ends ∙ (ap (λ m. part_end m q) middle_is
    ∙ ap (part_end (part_end 0 (part_in first held))) q_is)))))

pub both_uses : (value : Tree)
    → uses_in Geometry value ++ uses_in Address value ≡ flat_map leaves (boundaries value)
both_uses value = sym (flat_map-append leaves
    (flat_map own_boundary (items_of (member_of (codes "geometry") value)))
    (flat_map address_boundary (items_of (member_of (codes "address") value))))

-- ---- by numbers
pub geometries_numbered : (count : ℕ) (text : List ℕ) (held : HeldParts) (n : Numbering) (line : List ℕ) (n' : Numbering)
    (line₁ : List ℕ) → HasHolders text held → MemberMade NumberLabelled text Geometry count 0 held.geometry n line n' line₁
    → (value : Tree) → IsCompactOf text value → (line ≡ take (length line) line₁)
    × Numbers n.table.items n.order.items n'.table.items n'.order.items (uses_in Geometry value)
geometries_numbered count text held n line n' line₁ has made = of_object (λ value. (line ≡ take (length line) line₁)
    × Numbers n.table.items n.order.items n'.table.items n'.order.items (uses_in Geometry value)) text has.parts has.listed
    (λ members of are.
    let t' = n'.table.items in
    let o' = n'.order.items in
    let own : (List ℕ → List ℕ) → List ℕ = λ change. copied_to text 0 held.geometry Geometry change (object members) in
    let inner = numbered_walk n line n' line₁ (uses_in Geometry (object members)) own
    (made has.parts members of are has.geometry).1 in (
      sym (ap (take (length line)) (inner.written t' o' (extends_same t' o')) ∙ take_at line _ (length line) refl),
      record { extends = inner.extends; numbered = inner.numbered },
    ))

pub object_in_order : (count : ℕ) (n : Numbering) (line : List ℕ) (n' : Numbering) (line' : List ℕ) (value : Tree)
    → WalkedFrom NumberLabelled Geometry count n line n' line' value
    → ObjectMade count n.table.items n.order.items line n'.table.items n'.order.items line' value
object_in_order count n line n' line' value made =
    let own : (List ℕ → List ℕ) → List ℕ = λ change. compact (relabelled_object change value) in (
      made.0,
      numbered_walk n line n' line' (flat_map leaves (boundaries value)) own
          (walks_so n line n' line' _ _ own own made.1 (both_uses value) (λ change. refl)),
    )

pub object_out_of_order : (count count₂ : ℕ) (t o line : List ℕ) (n : Numbering) (line₁ : List ℕ) (n' : Numbering)
    (line' : List ℕ) (value : Tree) → count₂ ≡ count → line₁ ≡ line
    → Numbers t o n.table.items n.order.items (uses_in Geometry value)
    → WalkedFrom NumberLabelled Address count₂ n line₁ n' line' value
    → ObjectMade count t o line n'.table.items n'.order.items line' value
object_out_of_order count count₂ t o line n line₁ n' line' value long back before after =
    let made = subst (λ k. WalkedFrom NumberLabelled Address k n line n' line' value) long
    (subst (λ l. WalkedFrom NumberLabelled Address count₂ n l n' line' value) back after) in
    let own : (List ℕ → List ℕ) → List ℕ = λ change. compact (relabelled_object change value) in
    let uses = uses_in Geometry value in
    let uses₂ = uses_in Address value in (
      made.0,
      copies_so t o line n'.table.items n'.order.items line' (uses ++ uses₂) (flat_map leaves (boundaries value)) own own
          (copies_numbered t o n.table.items n.order.items line n'.table.items n'.order.items line' uses uses₂ own before
          (numbered_walk n line n' line' (uses₂ ++ uses) own made.1)) (both_uses value) (λ change. refl),
    )

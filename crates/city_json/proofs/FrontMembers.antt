-- The members of an object that stands in front of other bytes.
use Rattle.std.proofs.Common.{◌≡◌, ◌≢◌, ◌++◌, ◌∙◌, ◌≤◌, ◌<◌, ◌+◌, ◌-◌, ℕ, List, [], ◌∷◌, length, take, drop, get_or, slice_range, refl, ap, sym, subst, arith, append_assoc, append-nil, length-append}
use Rattle.std.proofs.lemmas.List.{drop-drop, take-append-drop}
use Rattle.byte_streams.specs.Limits.{max_depth}
use Rattle.city_json.proofs.CompactEnds.{object_front, other_head}
use Rattle.city_json.proofs.MemberEnds.{more_members_stopped}
use Rattle.city_json.proofs.StringEnds.{first_same, others_same}
use Rattle.city_json.proofs.PassParts as pass
use Rattle.city_json.proofs.Places.{drop_one}
use Rattle.city_json.specs.Bytes.{colon, comma, open_brace, close_brace, quotation_mark}
use Rattle.city_json.specs.Compact.{quoted, compact, compact_members, compact_more_members}
use Rattle.city_json.specs.CompactEnds.{LeavesValue}
use Rattle.city_json.specs.CompactMembers.{HasNoMember, HasParts, LeavesMember}
use Rattle.city_json.specs.CompactTexts.{IsCompactOf}
use Rattle.city_json.specs.Fits.{depth, members_depth}
use Rattle.city_json.specs.Parts.{IsPart, AreParts}
use Rattle.city_json.specs.Tree.{Tree, object, MemberTrees, no_members, member}
use Rattle.city_json.specs.Writable.{IsWritable, AreWritableMembers}
use Rattle.city_json.specs.declared.compacting.places.MemberPlace.{MemberPlace}
use Rattle.city_json.specs.FrontMembers.{EndsAfter, GoesOn, GoneTo, HasFrontParts, HasNoObject, AllLieIn, MembersLeft}

after_brace : (text rest : List ℕ) (all : MemberTrees) → text ≡ compact (object all) ++ rest
    → drop 1 text ≡ compact_members all ++ close_brace ∷ rest
after_brace text rest all is = ap (drop 1) is ∙ append_assoc (compact_members all) (close_brace ∷ []) rest

pub members_begin : (text : List ℕ) (parts : List MemberPlace) → parts ≡ [] → 1 < length text
    → get_or text 1 0 ≢ close_brace → GoesOn 1 text parts
members_begin text parts none inside other no_members rest w within is =
    absurd (other (first_same _ _ _ _ (sym (drop_one text 1 (get_or text 1 0) inside refl)
    ∙ after_brace text rest no_members is)))
members_begin text parts none inside other (member name first others) rest w within is = record {
  name = name;
  first = first;
  others = others;
  writable = w;
  within = within;
  is = after_brace text rest (member name first others) is;
  whole = λ more are. subst (λ l. AreParts 1 (l ++ more) (member name first others)) (sym none) are;
}

pub members_none : (text : List ℕ) (parts : List MemberPlace) → parts ≡ [] → 1 < length text
    → get_or text 1 0 ≡ close_brace → AllLieIn text parts 2
members_none text parts none inside here no_members rest w within is =
    (subst (λ l. AreParts 1 l no_members) (sym none) tt, ap (drop 2) is)
members_none text parts none inside here (member name first others) rest w within is =
    absurd (other_head quotation_mark close_brace _ _ (omega arith)
    (sym (ap (drop 1) is) ∙ drop_one text 1 close_brace inside here))

record MemberTaken (text rest : List ℕ) (at : ℕ) (part : MemberPlace) (name : List ℕ) (first : Tree) (others : MemberTrees) :
    Type 0 where
  pub is_part : IsPart at part name first
  pub after : drop part.end text ≡ compact_more_members others ++ close_brace ∷ rest

member_taken : (text rest : List ℕ) (at : ℕ) (part : MemberPlace) (parts : List MemberPlace) (all : MemberTrees)
    (left : MembersLeft at (drop at text) rest parts all)
    → LeavesMember at part (drop at text) (drop part.end text)
    → MemberTaken text rest at part left.name left.first left.others
member_taken text rest at part parts all left leaves =
    let found = leaves left.name left.first (compact_more_members left.others ++ close_brace ∷ rest) left.writable.1
    (omega (arith, left.within)) (more_members_stopped left.others rest)
    (left.is ∙ append_assoc (quoted left.name ++ colon ∷ compact left.first) (compact_more_members left.others)
    (close_brace ∷ rest)) in
    record { is_part = found.0; after = found.1 }

none_left : (text rest : List ℕ) (end : ℕ) (others : MemberTrees) → end < length text → get_or text end 0 ≡ close_brace
    → drop end text ≡ compact_more_members others ++ close_brace ∷ rest
    → (others ≡ no_members) × (drop (end + 1) text ≡ rest)
none_left text rest end no_members inside here is =
    (refl, others_same _ _ _ _ (sym (drop_one text end close_brace inside here) ∙ is))
none_left text rest end (member name first others) inside here is =
    absurd (other_head comma close_brace _ _ (omega arith) (sym is ∙ drop_one text end close_brace inside here))

pub members_stop : (text : List ℕ) (at : ℕ) (part : MemberPlace) (parts new : List MemberPlace) → GoesOn at text parts
    → LeavesMember at part (drop at text) (drop part.end text) → part.end < length text
    → get_or text part.end 0 ≡ close_brace → new ≡ parts ++ part ∷ [] → AllLieIn text new (part.end + 1)
members_stop text at part parts new on leaves inside here pushed all rest w within is =
    let left = on all rest w within is in
    let taken = member_taken text rest at part parts all left leaves in
    let none = none_left text rest part.end left.others inside here taken.after in (
      subst (λ l. AreParts 1 l all) (sym pushed)
          (left.whole (part ∷ []) (taken.is_part, subst (λ o. AreParts (part.end + 1) [] o) (sym none.0) tt)),
      none.1,
    )

more_left : (text rest : List ℕ) (at : ℕ) (part : MemberPlace) (parts new : List MemberPlace) (all : MemberTrees) (name : List ℕ)
    (first : Tree) (others : MemberTrees)
    → AreWritableMembers (member name first others) → members_depth (member name first others) ≤ max_depth
    → ((more : List MemberPlace) → AreParts at more (member name first others) → AreParts 1 (parts ++ more) all)
    → MemberTaken text rest at part name first others → part.end < length text → get_or text part.end 0 ≢ close_brace
    → new ≡ parts ++ part ∷ [] → MembersLeft (part.end + 1) (drop (part.end + 1) text) rest new all
more_left text rest at part parts new all name first no_members w within whole taken inside other pushed =
    absurd (other (first_same _ _ _ _ (sym (drop_one text part.end (get_or text part.end 0) inside refl)
    ∙ taken.after)))
more_left text rest at part parts new all name first (member name₂ next others) w within whole taken inside other
    pushed = record {
      name = name₂;
      first = next;
      others = others;
      writable = w.2;
      within = omega (arith, within);
      is = others_same _ _ _ _ (sym (drop_one text part.end (get_or text part.end 0) inside refl) ∙ taken.after);
      whole = λ more are. subst (λ l. AreParts 1 l all) (pass.parts_more parts new part more pushed)
          (whole (part ∷ more) (taken.is_part, are));
    }

pub members_go_on : (text : List ℕ) (at : ℕ) (part : MemberPlace) (parts new : List MemberPlace) → GoesOn at text parts
    → LeavesMember at part (drop at text) (drop part.end text) → part.end < length text
    → get_or text part.end 0 ≢ close_brace → new ≡ parts ++ part ∷ [] → GoesOn (part.end + 1) text new
members_go_on text at part parts new on leaves inside other pushed all rest w within is =
    let left = on all rest w within is in
    more_left text rest at part parts new all left.name left.first left.others left.writable left.within left.whole
    (member_taken text rest at part parts all left leaves) inside other pushed

of_members : (text : List ℕ) (parts : List MemberPlace) (end : ℕ) (value : Tree) (rest : List ℕ) (members : MemberTrees)
    → value ≡ object members → IsWritable value → depth value ≤ max_depth → text ≡ compact value ++ rest
    → AllLieIn text parts end
    → (all : MemberTrees) × (value ≡ object all) × AreParts 1 parts all × (drop end text ≡ rest)
of_members text parts end value rest members is_object w within is on =
    let shallow : depth (object members) ≤ max_depth = subst (λ v. depth v ≤ max_depth) is_object within in
    let there = on members rest (subst IsWritable is_object w) (omega (arith, shallow))
    (is ∙ ap (λ v. compact v ++ rest) is_object) in
    (members, is_object, there.0, there.1)

pub has_front_parts : (text : List ℕ) (parts : List MemberPlace) (end : ℕ) → 0 < length text → get_or text 0 0 ≡ open_brace
    → AllLieIn text parts end → HasFrontParts text parts end
has_front_parts text parts end inside opens on = λ value rest w within is.
    let found = object_front value rest (drop 1 text) w (sym is ∙ drop_one text 0 open_brace inside opens) in
    of_members text parts end value rest found.0 found.1 w within is on

-- ---- an object that begins at a place
pub object_leaves : (text given : List ℕ) (parts : List MemberPlace) (at end : ℕ) → given ≡ drop at text
    → HasFrontParts given parts end → LeavesValue 128 (drop at text) (drop (at + end) text)
object_leaves text given parts at end here has = λ value rest w within stopped is.
    let (members, is_object, are, left) = has value rest w within (here ∙ is) in
    sym (drop-drop end at text) ∙ (ap (drop end) (sym here) ∙ left)

pub object_has_parts : (text given : List ℕ) (parts : List MemberPlace) (at end : ℕ) → given ≡ drop at text
    → HasFrontParts given parts end → HasParts (slice_range text at (at + end)) parts
object_has_parts text given parts at end here has = λ value w within is.
    let front : slice_range text at (at + end) ≡ take end given =
    ap (λ n. take n (drop at text)) (minus at end) ∙ ap (take end) (sym here) in
    let (members, is_object, are, left) = has value (drop end given) w within
    (sym (take-append-drop end given) ∙ ap (λ l. l ++ drop end given) (sym front ∙ is)) in
    (members, is_object, are)
  where
    minus : (at end : ℕ) → (at + end) - at ≡ end
    minus at end = omega arith

-- ---- an object with nothing after it
pub whole_parts : (text : List ℕ) (parts : List MemberPlace) (end : ℕ) → HasFrontParts text parts end → HasParts text parts
whole_parts text parts end has = λ value w within is.
    let (members, is_object, are, left) = has value [] w within (is ∙ sym (append-nil (compact value))) in
    (members, is_object, are)

-- ---- no object
pub too_short : (text : List ℕ) → length text < 2 → HasNoObject text
too_short text short all rest w within is =
    omega (
      arith,
      short,
      ap length is,
      length-append (compact (object all)) rest,
      length-append (compact_members all) (close_brace ∷ []),
    )

pub other_front : (text : List ℕ) → 0 < length text → get_or text 0 0 ≢ open_brace → HasNoObject text
other_front text some other all rest w within is = other (ap (λ l. get_or l 0 0) is)

pub no_next_member : (text : List ℕ) (at : ℕ) (parts : List MemberPlace) → GoesOn at text parts
    → HasNoMember (drop at text) → HasNoObject text
no_next_member text at parts on none all rest w within is =
    let left = on all rest w within is in
    none left.name left.first (compact_more_members left.others ++ close_brace ∷ rest) left.writable.1
    (omega (arith, left.within)) (more_members_stopped left.others rest)
    (omega (arith, length-append (compact_more_members left.others) (close_brace ∷ rest)))
    (left.is ∙ append_assoc (quoted left.name ++ colon ∷ compact left.first) (compact_more_members left.others)
    (close_brace ∷ rest))

pub no_whole_object : (text : List ℕ) → HasNoObject text → (members : MemberTrees) → ¬ IsCompactOf text (object members)
no_whole_object text none members = λ of.
    none members [] of.writable (omega (arith, of.within)) (of.is ∙ sym (append-nil (compact (object members))))

-- ---- from one member to the next
pub gone_stop : (text : List ℕ) (parts : List MemberPlace) (end : ℕ) → GoneTo text parts end → end < length text
    → get_or text end 0 ≡ close_brace → AllLieIn text parts (end + 1)
gone_stop text parts end gone inside here =
    let inside₂ : gone.part.end < length text = subst (λ n. n < length text) (sym gone.ends) inside in
    let here₂ : get_or text gone.part.end 0 ≡ close_brace =
    subst (λ n. get_or text n 0 ≡ close_brace) (sym gone.ends) here in
    subst (λ n. AllLieIn text parts (n + 1)) gone.ends
    (members_stop text gone.at gone.part gone.before parts gone.goes_on gone.leaves inside₂ here₂ gone.listed)

pub gone_on : (text : List ℕ) (parts : List MemberPlace) (end : ℕ) (next : MemberPlace) → GoneTo text parts end
    → end < length text → get_or text end 0 ≢ close_brace
    → LeavesMember (end + 1) next (drop (end + 1) text) (drop next.end text) → GoneTo text (parts ++ next ∷ []) next.end
gone_on text parts end next gone inside other leaves =
    let inside₂ : gone.part.end < length text = subst (λ n. n < length text) (sym gone.ends) inside in
    let other₂ : get_or text gone.part.end 0 ≢ close_brace =
    subst (λ n. get_or text n 0 ≢ close_brace) (sym gone.ends) other in
    record {
      at = end + 1;
      before = parts;
      part = next;
      listed = refl;
      ends = refl;
      goes_on = subst (λ n. GoesOn (n + 1) text parts) gone.ends
          (members_go_on text gone.at gone.part gone.before parts gone.goes_on gone.leaves inside₂ other₂ gone.listed);
      leaves = leaves;
    }

-- members up to one place that lie in some parts lie up to another in these and others
abbrev pub GoesFrom : List ℕ → ℕ → ℕ → Type 0
GoesFrom text from to = (parts : List MemberPlace) → GoneTo text parts from
    → (more : List MemberPlace) × GoneTo text (parts ++ more) to

pub goes_nowhere : (text : List ℕ) (end : ℕ) → GoesFrom text end end
goes_nowhere text end = λ parts gone. ([], subst (λ l. GoneTo text l end) (sym (append-nil parts)) gone)

pub goes_on_from : (text : List ℕ) (from to : ℕ) (next : MemberPlace) → GoesFrom text from to → to < length text
    → get_or text to 0 ≢ close_brace → LeavesMember (to + 1) next (drop (to + 1) text) (drop next.end text)
    → GoesFrom text from next.end
goes_on_from text from to next so_far inside other leaves = λ parts gone.
    let (more, on) = so_far parts gone in (
      more ++ next ∷ [],
      subst (λ l. GoneTo text l next.end) (append_assoc parts more (next ∷ []))
          (gone_on text (parts ++ more) to next on inside other leaves),
    )

pub ends_from : (text : List ℕ) (from to : ℕ) → GoesFrom text from to → to < length text
    → get_or text to 0 ≡ close_brace → EndsAfter text from (to + 1)
ends_from text from to so_far inside here = λ parts gone.
    let (more, on) = so_far parts gone in (more, gone_stop text (parts ++ more) to on inside here)

-- Boundaries and geometries that are copied from their compact texts.
use Rattle.std.proofs.Common.{◌≡◌, ◌⊎◌, ◌∙◌, ◌++◌, ◌<◌, ◌≤◌, ◌+◌, ◌-◌, ℕ, List, [], ◌∷◌, None, length, take, drop, get_or, slice_range, inl, inr, refl, sym, ap, subst, arith, append-nil, length-append, codes}
use Rattle.std.proofs.lemmas.List.{drop-drop, drop-take, get_or_append_left, get_or_push, take-append-drop, take-take}
use Rattle.std.specs.List.{flat_map, AllByRecursion}
use Rattle.city_json.proofs.CompactEnds.{number_other}
use Rattle.city_json.proofs.Places.{drop_one, shown_more, shown_one}
use Rattle.city_json.specs.Bytes.{close_brace, colon, comma, open_bracket}
use Rattle.city_json.specs.Compact.{compact, quoted}
use Rattle.city_json.specs.CompactEnds.{IsStopped, LeavesValue}
use Rattle.city_json.specs.Compacting.{shown}
use Rattle.city_json.specs.Members.{first_named}
use Rattle.city_json.specs.Parts.{AreParts, IsPartNamed}
use Rattle.city_json.specs.Tree.{Tree, null, boolean, number, string, array, object, MemberTrees}
use Rattle.city_json.specs.Writable.{IsWritable}
use Rattle.city_json.specs.declared.compacting.places.MemberPlace.{MemberPlace}
use Rattle.city_feature.proofs.LineTexts.{utf8}
use Rattle.city_families.specs.Boundaries.{IsGeometry, changed_members, own_boundary, relabelled_boundary}
use Rattle.city_families.specs.Copied.{CopiesItems, CopiesPart}
use Rattle.city_json.specs.FrontMembers.{EndsAfter, HasFrontParts, IsValuePlace}
use Rattle.city_families.specs.Leaves.{IsBoundary, IsNested, leaves, relabelled}
use Rattle.cut_on_text.specs.Walks.{Labelling, Walks, walks_so, walks_text}
use Rattle.city_json.specs.CompactTexts.{IsCompactOf}
use Rattle.cut_on_text.proofs.CopiedArrays.{part_array}
use Rattle.city_families.proofs.CopiedTexts.{shown_here}
use Rattle.city_json.proofs.FrontMembers.{has_front_parts}
use Rattle.cut_on_text.proofs.TextMembers.{changed_absent, walks_exchanged, member_there}

part_boundary : (count : ℕ) (value : Tree) (rest tail : List ℕ) → IsWritable value
    → compact value ++ rest ≡ open_bracket ∷ tail → IsNested count value → IsBoundary count value
part_boundary count null rest tail w is part = absurd part
part_boundary count (boolean b) rest tail w is part = absurd part
part_boundary count (number text) rest tail w is part = absurd (number_other text rest tail open_bracket w refl is)
part_boundary count (string text) rest tail w is part = absurd part
part_boundary count (array items) rest tail w is part = part
part_boundary count (object members) rest tail w is part = absurd part

pub boundary_made : {S : Type 0} {L : Labelling S} (count : ℕ) (text : List ℕ) (s : S) (line : List ℕ) (s' : S)
    (line' line₃ : List ℕ) (from end : ℕ) → 0 < length text
    → get_or text 0 0 ≡ open_bracket
    → CopiesItems count (drop 1 text) (drop end text)
    (Walks L s (shown line text 0 1) s' (shown line' text from end)) → length text ≤ end
    → line₃ ≡ line' ++ slice_range text from end
    → (value : Tree) → IsWritable value → text ≡ compact value → IsBoundary count value
    × Walks L s line s' line₃ (leaves value) (λ change. compact (relabelled change value))
boundary_made {S} {L} count text s line s' line' line₃ from end some here items past last value writable is =
    let begins : text ≡ open_bracket ∷ drop 1 text = drop_one text 0 open_bracket some here in
    let opened : shown line text 0 1 ≡ line ++ open_bracket ∷ [] =
    shown_one line text 0 0 open_bracket (omega arith) some here
    ∙ ap (λ l. l ++ open_bracket ∷ []) (shown_here line text 0 0 refl) in
    let made = part_array count s line (shown line text 0 1) s' (shown line' text from end) text (drop 1 text)
    (drop end text) begins opened items value [] writable tt (is ∙ sym (append-nil (compact value))) in (
      part_boundary count value [] (drop 1 text) writable (append-nil (compact value) ∙ (sym is ∙ begins)) made.1,
      subst (λ l. Walks L s line s' l (leaves value) (λ change. compact (relabelled change value))) (sym last)
          made.2,
    )

-- ---- a geometry
pub geometry_absent : {S : Type 0} {L : Labelling S} (count : ℕ) (text : List ℕ) (s : S) (line line' : List ℕ)
    (members : MemberTrees)
    → text ≡ compact (object members) → first_named (codes "boundaries") members ≡ None → line' ≡ line ++ text
    → IsGeometry count (object members) × Walks L s line s line' (flat_map leaves (own_boundary (object members)))
    (λ change. compact (relabelled_boundary change (object members)))
geometry_absent count text s line line' members is none appended =
    let none_there : own_boundary (object members) ≡ [] = rw none refl in (
      (tt, subst (AllByRecursion (IsBoundary count)) (sym none_there) tt),
      walks_so s line s line' [] (flat_map leaves (own_boundary (object members))) (λ change. text)
          (λ change. compact (relabelled_boundary change (object members))) (walks_text s line line' text appended)
          (sym (ap (flat_map leaves) none_there))
          (λ change. is ∙ ap (λ m. compact (object m))
          (sym (changed_absent (codes "boundaries") (relabelled change) members none))),
    )

pub geometry_made : {S : Type 0} {L : Labelling S} (count : ℕ) (text given : List ℕ) (s : S) (line line₁ : List ℕ)
    (s' : S) (line₂ line₃ : List ℕ) (parts : List MemberPlace) (part : MemberPlace)
    (members : MemberTrees) → IsCompactOf text (object members) → AreParts 1 parts members
    → IsPartNamed text parts (quoted (codes "boundaries") ++ colon ∷ []) part
    → given ≡ slice_range text part.value part.end
    → line₁ ≡ line ++ take part.value text
    → ((value : Tree) → IsWritable value → given ≡ compact value → IsBoundary count value
    × Walks L s line₁ s' line₂ (leaves value) (λ change. compact (relabelled change value)))
    → line₃ ≡ line₂ ++ drop part.end text
    → IsGeometry count (object members) × Walks L s line s' line₃ (flat_map leaves (own_boundary (object members)))
    (λ change. compact (relabelled_boundary change (object members)))
geometry_made count text given s line line₁ s' line₂ line₃ parts part members of are named lies front made back =
    let found = member_there text parts members (codes "boundaries") part given (utf8 (codes "boundaries") refl) of are
    named lies in
    let inner = made found.value found.of.writable found.of.is in
    let there : own_boundary (object members) ≡ found.value ∷ [] = rw found.is refl in
    let all = walks_exchanged s line line₁ s' line₂ line₃ text part members (codes "boundaries") found.value
    (leaves found.value) relabelled of.distinct.0 found.is found.exchanged front inner.1 back in (
      (tt, subst (AllByRecursion (IsBoundary count)) (sym there) (inner.0, tt)),
      walks_so s line s' line₃ (leaves found.value) (flat_map leaves (own_boundary (object members)))
          (λ change. compact (object (changed_members (codes "boundaries") (relabelled change) members)))
          (λ change. compact (relabelled_boundary change (object members))) all
          (sym (append-nil (leaves found.value)) ∙ sym (ap (flat_map leaves) there)) (λ change. refl),
    )

abbrev pub GeometryMade : {S : Type 0} → Labelling S → ℕ → S → List ℕ → S → List ℕ → Tree → Type 0
GeometryMade L count s line s' line' value = IsGeometry count value
    × Walks L s line s' line' (flat_map leaves (own_boundary value))
    (λ change. compact (relabelled_boundary change value))

-- ---- a geometry in front of other bytes, whose boundaries were copied where they were come upon
slice_of_front : (text : List ℕ) (stop from to : ℕ) → from ≤ to → to ≤ stop
    → slice_range (take stop text) from to ≡ slice_range text from to
slice_of_front text stop from to order within =
    let count : from + (stop - from) ≡ stop = omega arith in
    ap (take (to - from)) (ap (λ n. drop from (take n text)) (sym count) ∙ drop-take from (stop - from) text)
    ∙ take-take (to - from) (stop - from) (drop from text) (omega arith)

drop_of_front : (text : List ℕ) (stop from : ℕ) → from ≤ stop → drop from (take stop text) ≡ slice_range text from stop
drop_of_front text stop from order =
    let count : from + (stop - from) ≡ stop = omega arith in
    ap (λ n. drop from (take n text)) (sym count) ∙ drop-take from (stop - from) text

pub walked : (text name : List ℕ) (value end stop : ℕ) (there : IsValuePlace text name value)
    → LeavesValue 128 (drop value text) (drop end text) → end < length text → EndsAfter text end stop
    → (parts : List MemberPlace) × IsPartNamed text parts name (record { at = there.at; value = value; end = end })
    × HasFrontParts text parts stop
walked text name value end stop there leaves inside ends =
    let part : MemberPlace = record { at = there.at; value = value; end = end } in
    let found = ends (there.parts ++ part ∷ []) (record {
      at = there.at;
      before = there.parts;
      part = part;
      listed = refl;
      ends = refl;
      goes_on = there.goes_on;
      leaves = there.leaves end (omega (arith, inside)) leaves;
    }) in
    let here : length there.parts < length (there.parts ++ part ∷ []) =
    omega (arith, length-append there.parts (part ∷ [])) in (
      (there.parts ++ part ∷ []) ++ found.0,
      record {
        place = length there.parts;
        within = omega (arith, here, length-append (there.parts ++ part ∷ []) found.0);
        is = get_or_append_left (there.parts ++ part ∷ []) found.0 part (length there.parts) here
            ∙ get_or_push there.parts part part (length there.parts) refl;
        named = there.named;
      },
      has_front_parts text ((there.parts ++ part ∷ []) ++ found.0) stop there.some there.opens found.1,
    )

-- boundaries at a place, whose items were copied
pub copied_there : {S : Type 0} {L : Labelling S} (count : ℕ) (text : List ℕ) (s : S) (line : List ℕ) (s' : S)
    (line' : List ℕ) (value end : ℕ) → value < length text
    → get_or text value 0 ≡ open_bracket
    → CopiesItems count (drop (value + 1) text) (drop end text)
    (Walks L s (shown line text 0 (value + 1)) s' line')
    → CopiesPart count (drop value text) (drop end text) (Walks L s (shown line text 0 value) s' line')
copied_there count text s line s' line' value end inside here copied =
    part_array count s (shown line text 0 value) (shown line text 0 (value + 1)) s' line' (drop value text)
    (drop (value + 1) text) (drop end text) (drop_one text value open_bracket inside here)
    (shown_one line text 0 value open_bracket (omega arith) inside here) copied

pub part_leaves : {S : Type 0} {L : Labelling S} (count : ℕ) (b after : List ℕ) (s : S) (line : List ℕ) (s' : S)
    (line' : List ℕ)
    → CopiesPart count b after (Walks L s line s' line') → LeavesValue 128 b after
part_leaves count b after s line s' line' copied = λ value rest w shallow stopped is.
    (copied value rest w stopped is).0

module _ {S : Type 0} {L : Labelling S} (count : ℕ) (text : List ℕ) (s : S) (line : List ℕ) (s' : S)
    (line' line₃ : List ℕ) (at value end stop from : ℕ)
    (parts : List MemberPlace)
    (named : IsPartNamed text parts (quoted (codes "boundaries") ++ colon ∷ [])
    (record { at = at; value = value; end = end }))
    (front : HasFrontParts text parts stop) (begins : at ≤ value) (inside : value < length text)
    (opens : get_or text value 0 ≡ open_bracket) (order : value ≤ end) (more : end ≤ stop) (copied_to : from ≤ end)
    (stopped : IsStopped (drop end text))
    (copied : CopiesPart count (drop value text) (drop end text)
    (Walks L s (shown line text 0 value) s' (shown line' text from end)))
    (last : line₃ ≡ line' ++ slice_range text from stop) where
  walked_lies : drop value text ≡ slice_range text value end ++ drop end text
  walked_lies =
      let count : value + (end - value) ≡ end = omega (arith, order) in
      sym (take-append-drop (end - value) (drop value text))
      ∙ ap (λ l. slice_range text value end ++ l) (drop-drop (end - value) value text ∙ ap (λ n. drop n text) count)

  walked_front : shown line text 0 value ≡ line ++ take value (take stop text)
  walked_front =
      let count : value - 0 ≡ value = omega arith in
      ap (λ n. line ++ take n text) count
      ∙ ap (λ l. line ++ l) (sym (take-take value stop text (omega (arith, order, more))))

  walked_boundary : (boundary : Tree) → IsWritable boundary
      → slice_range (take stop text) value end ≡ compact boundary → IsBoundary count boundary
      × Walks L s (line ++ take value (take stop text)) s' (shown line' text from end) (leaves boundary)
      (λ change. compact (relabelled change boundary))
  walked_boundary boundary writable is =
      let lies : drop value text ≡ compact boundary ++ drop end text =
      walked_lies ∙ ap (λ l. l ++ drop end text) (sym (slice_of_front text stop value end order more) ∙ is) in
      let made = copied boundary (drop end text) writable stopped lies in (
        part_boundary count boundary (drop end text) (drop (value + 1) text) writable
            (sym lies ∙ drop_one text value open_bracket inside opens) made.1,
        subst (λ l. Walks L s l s' (shown line' text from end) (leaves boundary)
            (λ change. compact (relabelled change boundary))) walked_front made.2,
      )

  pub walked_made : (v : Tree) → IsCompactOf (take stop text) v → GeometryMade L count s line s' line₃ v
  walked_made v of =
      let part : MemberPlace = record { at = at; value = value; end = end } in
      let (members, is_object, are, left) = front v (drop stop text) of.writable of.within
      (sym (take-append-drop stop text) ∙ ap (λ l. l ++ drop stop text) of.is) in
      let of_object : IsCompactOf (take stop text) (object members) =
      subst (IsCompactOf (take stop text)) is_object of in
      subst (GeometryMade L count s line s' line₃) (sym is_object)
      (geometry_made count (take stop text) (slice_range (take stop text) value end) s line
      (line ++ take value (take stop text)) s' (shown line' text from end) line₃ parts part members of_object are
      (record {
        place = named.place;
        within = named.within;
        is = named.is;
        named = slice_of_front text stop at value begins (omega (arith, order, more)) ∙ named.named;
      }) refl refl walked_boundary
      (last ∙ (shown_more line' text from end stop copied_to more
      ∙ ap (λ l. shown line' text from end ++ l) (sym (drop_of_front text stop end more)))))

pub member_stopped : (text : List ℕ) (end : ℕ) → end < length text → (get_or text end 0 ≡ comma)
    ⊎ (get_or text end 0 ≡ close_brace) → IsStopped (drop end text)
member_stopped text end inside (inl here) = subst IsStopped (sym (drop_one text end comma inside here)) (inl refl)
member_stopped text end inside (inr here) = subst IsStopped (sym (drop_one text end close_brace inside here))
    (inr (inr refl))

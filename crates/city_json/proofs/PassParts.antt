-- Where the members of an object lie in its compact text.
use Rattle.std.proofs.Common.{◌≡◌, ◌++◌, ◌∙◌, ◌≤◌, ◌+◌, ℕ, List, [], ◌∷◌, length, drop, refl, ap, sym, subst, arith, append_assoc, length-append, IsUtf8}
use Rattle.std.proofs.lemmas.List.{append_cancel_right, length_push}
use Rattle.city_json.specs.Bytes.{comma, colon, open_brace, close_brace}
use Rattle.city_json.specs.Compact.{quoted, compact}
use Rattle.city_json.specs.Compacting.{Taken, TakenPart, TakenParts}
use Rattle.city_json.specs.Parts.{IsPart, AreParts}
use Rattle.city_json.specs.Fits.{HasDistinctNames, Fits}
use Rattle.byte_streams.specs.Limits.{max_depth}
use Rattle.city_json.specs.Members.{names}
use Rattle.city_json.specs.Marks.{TakenMark}
use Rattle.city_json.specs.Reading.{after_white}
use Rattle.city_json.specs.Tree.{Tree, object, MemberTrees, no_members, member}
use Rattle.city_json.specs.declared.compacting.places.MemberPlace.{MemberPlace}
use Rattle.city_json.specs.Depth.{IsDeep}
use Rattle.city_json.specs.Grammar.{Spells}
use Rattle.city_json.proofs.PassMembers.{MembersFrom, members_none, members_start, members_step, members_stop, names_more, object_taken, text_taken}
use Rattle.city_json.proofs.Places.{at_mark}

pub record PartsFrom (levels : ℕ) (b rest before after : List ℕ) (listed : List (List ℕ))
    (parts : List MemberPlace) : Type 0 where
  pub from : MembersFrom levels b rest before after listed
  pub are_parts : AreParts (length before) parts (member from.name from.value from.others)

pub record PartsWhole (levels : ℕ) (b rest before after : List ℕ) (listed : List (List ℕ))
    (parts : List MemberPlace) : Type 0 where
  pub members : MemberTrees
  pub names_are : names members ≡ listed
  pub whole : HasDistinctNames members → TakenParts levels b rest before after parts

pub part_is : (before start after name : List ℕ) (value : Tree) (part : MemberPlace)
    → after ≡ before ++ (quoted name ++ colon ∷ compact value) → after ≡ start ++ compact value
    → part.at ≡ length before → part.value ≡ length start → part.end ≡ length after
    → IsPart (length before) part name value
part_is before start after name value part is goes at_is value_is end_is =
    let joined : before ++ (quoted name ++ colon ∷ compact value) ≡ (before ++ (quoted name ++ colon ∷ []))
    ++ compact value = simp append_assoc in
    let start_is : start ≡ before ++ (quoted name ++ colon ∷ []) =
    append_cancel_right start (before ++ (quoted name ++ colon ∷ [])) (compact value) (sym goes ∙ (is ∙ joined)) in
    let middle : length start ≡ length before + length (quoted name ++ colon ∷ []) = ap length start_is
    ∙ length-append before (quoted name ++ colon ∷ []) in
    let whole : length after ≡ length start + length (compact value) = ap length goes
    ∙ length-append start (compact value) in
    (at_is, value_is ∙ middle, end_is ∙ (whole ∙ ap (λ n. n + length (compact value)) (sym value_is)))

pub parts_start : (levels : ℕ) (b b' rest before before' after : List ℕ) (done listed : List (List ℕ))
    (parts_done parts : List MemberPlace) → b' ≡ after_white b → before' ≡ before → done ≡ [] → parts_done ≡ []
    → PartsFrom levels b' rest before' after listed parts
    → PartsWhole levels b rest before after (done ++ listed) (parts_done ++ parts)
unfolding members_start
parts_start levels b b' rest before before' after done listed parts_done parts skips is none no_parts found =
    let whole = members_start levels b b' rest before before' after done listed skips is none found.from in
    record {
      members = whole.members;
      names_are = whole.names_are;
      whole = λ differ. record {
        taken = whole.whole differ;
        are_parts =
            subst (λ l. AreParts (length before) (l ++ parts)
            (member found.from.name found.from.value found.from.others))
            (sym no_parts) (subst (λ l. AreParts (length l) parts
            (member found.from.name found.from.value found.from.others)) is found.are_parts);
      };
    }

pub parts_none : (levels : ℕ) (b rest before after : List ℕ) (parts : List MemberPlace) → parts ≡ []
    → after_white b ≡ close_brace ∷ rest → after ≡ before ++ close_brace ∷ []
    → TakenParts levels b rest before after parts
unfolding members_none
parts_none levels b rest before after parts none closes is =
    record {
      taken = members_none levels b rest before after closes is;
      are_parts =
          subst (λ l. AreParts (length before) l no_members) (sym none) tt;
    }

pub parts_stop : (levels : ℕ) (b beyond rest before mid at_mark after_a_mark : List ℕ) (one two : List (List ℕ))
    (p_one p_two : List MemberPlace) (t : TakenPart levels b beyond before mid one two p_one p_two)
    → after_white beyond ≡ close_brace ∷ rest → at_mark ≡ mid → after_a_mark ≡ at_mark ++ close_brace ∷ []
    → PartsFrom levels b rest before after_a_mark (t.taken.name ∷ []) (t.part ∷ [])
unfolding members_stop
parts_stop levels b beyond rest before mid at_mark after_a_mark one two p_one p_two t closes is₁ is₂ = record {
  from = members_stop levels b beyond rest before mid at_mark after_a_mark one two t.taken closes is₁ is₂;
  are_parts = (t.is_part, tt);
}

pub parts_step : (levels : ℕ) (b beyond next b' rest before mid at_mark after_a_mark before' after : List ℕ)
    (one two : List (List ℕ)) (p_one p_two : List MemberPlace) (listed : List (List ℕ)) (parts : List MemberPlace)
    (t : TakenPart levels b beyond before mid one two p_one p_two)
    → after_white beyond ≡ comma ∷ next → at_mark ≡ mid → after_a_mark ≡ at_mark ++ comma ∷ [] → b' ≡ after_white next
    → before' ≡ after_a_mark → PartsFrom levels b' rest before' after listed parts
    → PartsFrom levels b rest before after (t.taken.name ∷ listed) (t.part ∷ parts)
unfolding members_step
parts_step levels b beyond next b' rest before mid at_mark after_a_mark before' after one two p_one p_two listed parts t
    goes is₁ is₂ skips is₃ found =
    let shows : before' ≡ mid ++ comma ∷ [] = is₃ ∙ (is₂ ∙ ap (λ l. l ++ comma ∷ []) is₁) in
    let name = t.taken.name in
    let value = t.taken.value in
    let joined : before ++ (quoted name ++ colon ∷ compact value) ≡ before
    ++ ((quoted name ++ colon ∷ []) ++ compact value) = simp append_assoc in
    let long : length mid ≡ length before + (length (quoted name ++ colon ∷ []) + length (compact value)) =
    ap length (t.taken.is_shown ∙ joined)
    ∙ (length-append before ((quoted name ++ colon ∷ []) ++ compact value)
    ∙ ap (λ n. length before + n) (length-append (quoted name ++ colon ∷ []) (compact value))) in
    let ends : t.part.end ≡ t.part.value + length (compact value) = t.is_part.2 in
    let begins : t.part.value ≡ length before + length (quoted name ++ colon ∷ []) = t.is_part.1 in
    let count : length before' ≡ t.part.end + 1 = ap length shows
    ∙ (length_push mid comma ∙ omega (arith, long, ends, begins)) in
    record {
      from = members_step levels b beyond next b' rest before mid at_mark after_a_mark before' after one two listed
          t.taken goes is₁ is₂ skips is₃ found.from;
      are_parts = (
        t.is_part,
        subst (λ n. AreParts n parts (member found.from.name found.from.value found.from.others))
            count found.are_parts,
      );
    }

-- one member's part more after those before it
pub parts_more : (one two : List MemberPlace) (part : MemberPlace) (parts : List MemberPlace) → two ≡ one ++ part ∷ []
    → one ++ (part ∷ parts) ≡ two ++ parts
parts_more one two part parts is = sym (ap (λ l. l ++ parts) is ∙ append_assoc one (part ∷ []) parts)

-- what takes the members from the next one on takes all, where it does so from the one before the comma on
pub parts_go_on : (levels : ℕ) (all b beyond b' rest shown_all before mid before' after : List ℕ)
    (one two three listed : List (List ℕ)) (p_one p_two parts : List MemberPlace)
    (t : TakenPart levels b beyond before mid one two p_one p_two) → three ≡ two → TakenMark comma beyond b' mid before'
    → ((l : List (List ℕ)) (p : List MemberPlace) → PartsFrom levels b rest before after l p
    → PartsWhole levels all rest shown_all after (one ++ l) (p_one ++ p))
    → PartsFrom levels b' rest before' after listed parts
    → PartsWhole levels all rest shown_all after (three ++ listed) (p_two ++ parts)
parts_go_on levels all b beyond b' rest shown_all before mid before' after one two three listed p_one p_two parts t same mark
    so_far from =
    subst (λ l. PartsWhole levels all rest shown_all after l (p_two ++ parts))
    (names_more 0 one two three t.taken.name listed (omega arith) t.taken.names_are same)
    (subst (PartsWhole levels all rest shown_all after (one ++ (t.taken.name ∷ listed)))
    (parts_more p_one p_two t.part parts t.parts_are)
    (so_far (t.taken.name ∷ listed) (t.part ∷ parts)
    (parts_step levels b beyond mark.next b' rest before mid mid before' before' after one two p_one p_two listed parts t
    mark.is_next refl mark.is_shown mark.starts refl from)))

pub whole_parts : (text line : List ℕ) (at end last : ℕ) (shown_at shown_top shown_end : List ℕ) (parts : List MemberPlace)
    → IsUtf8 text → shown_at ≡ [] → drop at text ≡ after_white text → drop at text ≡ open_brace ∷ drop (at + 1) text
    → shown_top ≡ shown_at ++ open_brace ∷ []
    → TakenParts 127 (drop (at + 1) text) (drop end text) shown_top shown_end parts
    → drop last text ≡ after_white (drop end text) → length text ≤ last → line ≡ shown_end
    → (members : MemberTrees) × Spells text (object members) × Fits (object members) × (IsDeep text → ⊥)
    × (line ≡ compact (object members)) × AreParts 1 parts members
unfolding object_taken text_taken
whole_parts text line at end last shown_at shown_top shown_end parts utf8 empty skipped opens tops t skipped₂ over is =
    let some : (max_depth ≡ 0 → ⊥) = λ e. omega arith in
    let taken : Taken max_depth (drop at text) (drop end text) shown_at shown_end =
    object_taken max_depth (drop at text) (drop (at + 1) text)
    (drop end text) shown_at shown_top shown_end some opens tops t.taken in
    let all = text_taken text line at end last [] shown_at shown_end utf8 refl empty skipped taken skipped₂ over is in (
      t.taken.members,
      all.1,
      all.2,
      all.3,
      all.4,
      subst (λ n. AreParts n parts t.taken.members)
          (ap length (tops ∙ ap (λ l. l ++ open_brace ∷ []) empty)) t.are_parts,
    )

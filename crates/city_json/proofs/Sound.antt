-- What the functions on lists read is spelled so: members, words and whole values.
use Rattle.std.proofs.Common.{◌≡◌, ◌++◌, ◌==◌, ◌∙◌, ◌≤◌, ℕ, zero, suc, true, false, List, ◌∷◌, Option, Some, None, length, drop, refl, ap, sym, subst, arith, nat_eq, codes, append_assoc, []}
use Rattle.std.proofs.lemmas.List.{append-nil}
use Rattle.std.proofs.lemmas.Option.{none-some, same_Some, cond_some}
use Rattle.std.specs.List.{starts_with}
use Rattle.city_json.specs.Bytes.{colon, open_bracket, open_brace, close_bracket, close_brace, quotation_mark}
use Rattle.city_json.specs.Compacting.{FoundItems}
use Rattle.city_json.specs.Fits.{depth}
use Rattle.byte_streams.specs.Limits.{max_depth}
use Rattle.city_json.specs.Grammar.{Spaced, SpellsValue}
use Rattle.city_json.specs.Reading.{after_white, mark_at, after_byte, start_of, word_at, scalar_at, items_at, array_from, member_at, members_at, members_after, object_from, value_at, value_from, text_at}
use Rattle.city_json.specs.Strings.{SpellsString}
use Rattle.city_json.specs.Tree.{Tree, null, boolean, number, string, array, object, no_items, MemberTrees, no_members, member}
use Rattle.city_json.specs.declared.reading.AfterItem.{AfterItem}
use Rattle.city_json.specs.declared.reading.AfterItem.TheVariants as mark
use Rattle.city_json.specs.declared.reading.Start.{Start}
use Rattle.city_json.specs.declared.reading.Start.TheVariants as start
use Rattle.city_json.specs.NumberAt.{number_at}
use Rattle.city_json.specs.ReadString.{string_at}
use Rattle.city_json.proofs.NumberLaws as number_laws
use Rattle.city_json.proofs.Scanning.{bind_some, after_white-splits, mark_at-comma, mark_at-close, after_byte-some, starts_with-splits, start_of-list, start_of-map, start_of-text}
use Rattle.city_json.proofs.SpelledString.{string_at-sound}
use Rattle.city_json.proofs.SoundItems.{Found, FoundMember, FoundMembers, IsSound, Reader, items_at-sound, members-last, members-next, no_bytes, regroup}

-- a name, white space, a colon, white space, and a value
pub member-found : (levels : ℕ) (name : List ℕ) (value : Tree) (b text consumed beyond after rest : List ℕ)
    → b ≡ quotation_mark ∷ text → text ≡ consumed ++ beyond → SpellsString name (quotation_mark ∷ consumed)
    → after_white beyond ≡ colon ∷ after → Found levels value (after_white after) rest
    → FoundMember levels name value b rest
member-found levels name value b text consumed beyond after rest opens named spells goes found =
    let white = after_white-splits beyond in
    let then = after_white-splits after in
    record {
      text = ((quotation_mark ∷ consumed) ++ white.white) ++ colon ∷ (then.white ++ found.text);
      splits = opens ∙ ap (λ l. quotation_mark ∷ l) (named
          ∙ (ap (λ l. consumed ++ l) (white.splits ∙ ap (λ l. white.white ++ l) (goes ∙ ap (λ l. colon ∷ l)
          (then.splits ∙ ap (λ l. then.white ++ l) found.splits)))
          ∙ regroup consumed white.white then.white found.text rest colon));
      spells = (
        (quotation_mark ∷ consumed) ++ white.white,
        then.white ++ found.text,
        refl,
        ([], quotation_mark ∷ consumed, white.white, refl, tt, spells, white.blank),
        (
          then.white,
          found.text,
          [],
          ap (λ l. then.white ++ l) (sym (append-nil found.text)),
          then.blank,
          found.spells,
          tt,
        ),
      );
      within = found.within;
    }

member_at-sound : (levels : ℕ) (read : Reader) → IsSound levels read → (b rest : List ℕ) (named : List ℕ × Tree)
    → member_at read b ≡ Some (named, rest) → FoundMember levels named.0 named.1 b rest
member_at-sound levels read is_sound b rest named is =
    let opens = bind_some (after_byte quotation_mark b) _ (named, rest) is in
    let name = bind_some (string_at opens.0) _ (named, rest) opens.2 in
    let goes = bind_some (after_byte colon (after_white name.0.1)) _ (named, rest) name.2 in
    let value = bind_some (read (after_white goes.0)) _ (named, rest) goes.2 in
    let text = string_at-sound opens.0 name.0.0 name.0.1 name.1 in
    let all : FoundMember levels name.0.0 value.0.0 b value.0.1 =
    member-found levels name.0.0 value.0.0 b opens.0 text.0 name.0.1 goes.0 value.0.1
    (after_byte-some quotation_mark b opens.0 opens.1) text.1 text.2
    (after_byte-some colon (after_white name.0.1) goes.0 goes.1)
    (is_sound (after_white goes.0) value.0.1 value.0.0 value.1) in
    subst (λ (p : (List ℕ × Tree) × List ℕ). FoundMember levels p.0.0 p.0.1 b p.1)
    (same_Some ((name.0.0, value.0.0), value.0.1) (named, rest) value.2) all

members_after-sound : (levels : ℕ) (more : List ℕ → Option (MemberTrees × List ℕ))
    → ((b rest : List ℕ) (members : MemberTrees) → more b ≡ Some (members, rest) → FoundMembers levels members b rest)
    → (named : List ℕ × Tree) (b beyond rest : List ℕ) (members : MemberTrees) (found : AfterItem) (after : List ℕ)
    → FoundMember levels named.0 named.1 b beyond → mark_at close_brace (after_white beyond) ≡ (found, after)
    → members_after more named (found, after) ≡ Some (members, rest) → FoundMembers levels members b rest
members_after-sound levels more is_sound named b beyond rest members mark.Comma after first marked read =
    let step = bind_some (more (after_white after)) (λ others. Some (member named.0 named.1 others.0, others.1))
    (members, rest) read in
    let same = same_Some _ _ step.2 in
    let next : FoundMembers levels step.0.0 (after_white after) step.0.1 =
    is_sound (after_white after) step.0.1 step.0.0 step.1 in
    let all : FoundMembers levels (member named.0 named.1 step.0.0) b step.0.1 =
    members-next levels named.0 named.1 step.0.0 b beyond after step.0.1 first
    (mark_at-comma close_brace (after_white beyond) after marked) next in
    subst (λ (p : MemberTrees × List ℕ). FoundMembers levels p.0 b p.1) same all
members_after-sound levels more is_sound named b beyond rest members mark.Close after first marked read =
    subst (λ (p : MemberTrees × List ℕ). FoundMembers levels p.0 b p.1)
    (same_Some (member named.0 named.1 no_members, after) (members, rest) read)
    (members-last levels named.0 named.1 b beyond after first
    (mark_at-close close_brace (after_white beyond) after marked))
members_after-sound levels more is_sound named b beyond rest members mark.Neither after first marked read =
    absurd (none-some (members, rest) read)

members_at-sound : (levels : ℕ) (read : Reader) → IsSound levels read
    → (n : ℕ) (b rest : List ℕ) (members : MemberTrees) → members_at read n b ≡ Some (members, rest)
    → FoundMembers levels members b rest
unfolding members_at
members_at-sound levels read is_sound zero b rest members is = absurd (none-some (members, rest) is)
members_at-sound levels read is_sound (suc n) b rest members is =
    let step = bind_some (member_at read b)
    (λ first. members_after (members_at read n) first.0 (mark_at close_brace (after_white first.1))) (
      members,
      rest,
    ) is in
    members_after-sound levels (members_at read n)
    (members_at-sound levels read is_sound n) step.0.0 b step.0.1 rest members
    (mark_at close_brace (after_white step.0.1)).0 (mark_at close_brace (after_white step.0.1)).1
    (member_at-sound levels read is_sound b step.0.1 step.0.0 step.1) refl step.2

-- a word, and nothing else of it
word_at-sound : (levels : ℕ) (word : List ℕ) (value found : Tree) (b rest : List ℕ) → SpellsValue value word
    → depth value ≡ 0 → word_at word value b ≡ Some (found, rest) → Found levels found b rest
word_at-sound levels word value found b rest spells flat is =
    let parts = cond_some (starts_with nat_eq b word) (value, drop (length word) b) (found, rest) is in
    let all : Found levels value b (drop (length word) b) =
    record {
      text = word;
      splits = starts_with-splits b word parts.0;
      spells = spells;
      within =
          omega (arith, flat);
    } in
    subst (λ (p : Tree × List ℕ). Found levels p.0 b p.1) parts.1 all

scalar_at-sound : (levels : ℕ) (c : ℕ) (b rest : List ℕ) (value : Tree) (kind : Start) → kind ≡ start_of c
    → scalar_at kind (c ∷ b) ≡ Some (value, rest) → Found levels value (c ∷ b) rest
scalar_at-sound levels c b rest value start.Null is read =
    word_at-sound levels (codes "null") null value (c ∷ b) rest refl refl read
scalar_at-sound levels c b rest value start.True is read =
    word_at-sound levels (codes "true") (boolean true) value (c ∷ b) rest refl refl read
scalar_at-sound levels c b rest value start.False is read =
    word_at-sound levels (codes "false") (boolean false) value (c ∷ b) rest refl refl read
scalar_at-sound levels c b rest value start.Number is read =
    let step = bind_some (number_at (c ∷ b)) _ (value, rest) read in
    let law = number_laws.sound (c ∷ b) step.0.0 step.0.1 step.1 in
    let all : Found levels (number step.0.0) (c ∷ b) step.0.1 =
    record { text = step.0.0; splits = law.0; spells = (refl, law.1); within = omega arith } in
    subst (λ (p : Tree × List ℕ). Found levels p.0 (c ∷ b) p.1) (same_Some _ _ step.2) all
scalar_at-sound levels c b rest value start.Text is read =
    let step = bind_some (string_at b) _ (value, rest) read in
    let law = string_at-sound b step.0.0 step.0.1 step.1 in
    let all : Found levels (string step.0.0) (c ∷ b) step.0.1 =
    record {
      text = quotation_mark ∷ law.0;
      splits =
          rw (start_of-text c (sym is)) (ap (λ l. quotation_mark ∷ l) law.1);
      spells = law.2;
      within = omega arith;
    } in
    subst (λ (p : Tree × List ℕ). Found levels p.0 (c ∷ b) p.1) (same_Some _ _ step.2) all
scalar_at-sound levels c b rest value start.List is read = absurd (none-some (value, rest) read)
scalar_at-sound levels c b rest value start.Map is read = absurd (none-some (value, rest) read)
scalar_at-sound levels c b rest value start.Other is read = absurd (none-some (value, rest) read)

array_from-sound : (levels : ℕ) (read : Reader) → IsSound levels read
    → (b rest : List ℕ) (value : Tree) (empty : Option (List ℕ)) → after_byte close_bracket (after_white b) ≡ empty
    → array_from read empty (after_white b) ≡ Some (value, rest) → Found (suc levels) value (open_bracket ∷ b) rest
array_from-sound levels read is_sound b rest value (Some beyond) closes is =
    let white = after_white-splits b in
    let all : Found (suc levels) (array no_items) (open_bracket ∷ b) beyond = record {
      text = open_bracket ∷ white.white ++ close_bracket ∷ [];
      splits = ap (λ l. open_bracket ∷ l) (white.splits
          ∙ (ap (λ l. white.white ++ l) (after_byte-some close_bracket (after_white b) beyond closes)
          ∙ sym (append_assoc white.white (close_bracket ∷ []) beyond)));
      spells = (white.white, refl, white.blank);
      within = omega arith;
    } in
    subst (λ (p : Tree × List ℕ). Found (suc levels) p.0 (open_bracket ∷ b) p.1)
    (same_Some (array no_items, beyond) (value, rest) is) all
array_from-sound levels read is_sound b rest value None closes is =
    let white = after_white-splits b in
    let step = bind_some (items_at read (length (after_white b)) (after_white b)) _ (value, rest) is in
    let found : FoundItems levels step.0.0 (after_white b) step.0.1 =
    items_at-sound levels read is_sound (length (after_white b)) (after_white b) step.0.1 step.0.0 step.1 in
    let all : Found (suc levels) (array step.0.0) (open_bracket ∷ b) step.0.1 = record {
      text = open_bracket ∷ (white.white ++ found.inner) ++ close_bracket ∷ [];
      splits = ap (λ l. open_bracket ∷ l) (white.splits
          ∙ (ap (λ l. white.white ++ l) found.splits ∙ simp append_assoc));
      spells = (white.white ++ found.inner, refl, found.spells white.white white.blank);
      within = omega (arith, found.within);
    } in
    subst (λ (p : Tree × List ℕ). Found (suc levels) p.0 (open_bracket ∷ b) p.1)
    (same_Some (array step.0.0, step.0.1) (value, rest) step.2) all

object_from-sound : (levels : ℕ) (read : Reader) → IsSound levels read
    → (b rest : List ℕ) (value : Tree) (empty : Option (List ℕ)) → after_byte close_brace (after_white b) ≡ empty
    → object_from read empty (after_white b) ≡ Some (value, rest) → Found (suc levels) value (open_brace ∷ b) rest
object_from-sound levels read is_sound b rest value (Some beyond) closes is =
    let white = after_white-splits b in
    let all : Found (suc levels) (object no_members) (open_brace ∷ b) beyond = record {
      text = open_brace ∷ white.white ++ close_brace ∷ [];
      splits = ap (λ l. open_brace ∷ l) (white.splits
          ∙ (ap (λ l. white.white ++ l) (after_byte-some close_brace (after_white b) beyond closes)
          ∙ sym (append_assoc white.white (close_brace ∷ []) beyond)));
      spells = (white.white, refl, white.blank);
      within = omega arith;
    } in
    subst (λ (p : Tree × List ℕ). Found (suc levels) p.0 (open_brace ∷ b) p.1)
    (same_Some (object no_members, beyond) (value, rest) is) all
object_from-sound levels read is_sound b rest value None closes is =
    let white = after_white-splits b in
    let step = bind_some (members_at read (length (after_white b)) (after_white b)) _ (value, rest) is in
    let found : FoundMembers levels step.0.0 (after_white b) step.0.1 =
    members_at-sound levels read is_sound (length (after_white b)) (after_white b) step.0.1 step.0.0 step.1 in
    let all : Found (suc levels) (object step.0.0) (open_brace ∷ b) step.0.1 = record {
      text = open_brace ∷ (white.white ++ found.inner) ++ close_brace ∷ [];
      splits = ap (λ l. open_brace ∷ l) (white.splits ∙ (ap (λ l. white.white ++ l) found.splits ∙ simp append_assoc));
      spells = (white.white ++ found.inner, refl, found.spells white.white white.blank);
      within = omega (arith, found.within);
    } in
    subst (λ (p : Tree × List ℕ). Found (suc levels) p.0 (open_brace ∷ b) p.1)
    (same_Some (object step.0.0, step.0.1) (value, rest) step.2) all

value_from-sound : (levels : ℕ) (read : Reader) → IsSound levels read
    → (c : ℕ) (b rest : List ℕ) (value : Tree) (kind : Start) → kind ≡ start_of c
    → value_from read kind (c ∷ b) ≡ Some (value, rest) → Found (suc levels) value (c ∷ b) rest
value_from-sound levels read is_sound c b rest value start.List is found =
    rw (start_of-list c (sym is)) (array_from-sound levels read is_sound b rest value
    (after_byte close_bracket (after_white b)) refl found)
value_from-sound levels read is_sound c b rest value start.Map is found =
    rw (start_of-map c (sym is)) (object_from-sound levels read is_sound b rest value
    (after_byte close_brace (after_white b)) refl found)
value_from-sound levels read is_sound c b rest value kind is found =
    scalar_at-sound (suc levels) c b rest value kind is found

value_at-sound : (levels : ℕ) → IsSound levels (value_at levels)
unfolding value_at
value_at-sound zero [] rest value is = absurd (none-some (value, rest) is)
value_at-sound zero (c ∷ b) rest value is = scalar_at-sound zero c b rest value (start_of c) refl is
value_at-sound (suc levels) [] rest value is = absurd (none-some (value, rest) is)
value_at-sound (suc levels) (c ∷ b) rest value is =
    value_from-sound levels (value_at levels) (value_at-sound levels) c b rest value (start_of c) refl is

-- What the whole text gives is spelled by it, and is no deeper than a value may be.
pub text_at-sound : (b : List ℕ) (value : Tree) → text_at b ≡ Some value → Spaced (SpellsValue value) b
    × (depth value ≤ max_depth)
text_at-sound b value is =
    let step = bind_some (value_at max_depth (after_white b)) _ value is in
    let before = after_white-splits b in
    let found : Found max_depth step.0.0 (after_white b) step.0.1 =
    value_at-sound max_depth (after_white b) step.0.1 step.0.0 step.1 in
    let beyond = after_white-splits step.0.1 in
    let parts = cond_some (length (after_white step.0.1) == 0) step.0.0 value step.2 in
    let ends : after_white step.0.1 ≡ [] = no_bytes (after_white step.0.1) parts.0 in
    let all : Spaced (SpellsValue step.0.0) b × (depth step.0.0 ≤ max_depth) = (
      (
        before.white,
        found.text,
        beyond.white,
        before.splits
            ∙ ap (λ l. before.white ++ l) (found.splits
            ∙ ap (λ l. found.text ++ l) (beyond.splits ∙ (ap (λ l. beyond.white ++ l) ends ∙ append-nil beyond.white))),
        before.blank,
        found.spells,
        beyond.blank,
      ),
      found.within,
    ) in
    subst (λ (v : Tree). Spaced (SpellsValue v) b × (depth v ≤ max_depth)) parts.1 all

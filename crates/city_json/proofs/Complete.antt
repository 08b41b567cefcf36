-- What is spelled so is read by the functions on lists: strings, items, members and whole values.
use Rattle.std.proofs.Common.{◌≡◌, ◌++◌, ◌+◌, ◌∙◌, ◌≤◌, ℕ, zero, suc, true, false, List, ◌∷◌, Some, length, length-append, refl, ap, sym, arith, codes, append_assoc, []}
use Rattle.std.proofs.lemmas.List.{append-nil}
use Rattle.std.proofs.lemmas.Option.{same_Some}
use Rattle.city_json.specs.Bytes.{comma, colon, close_bracket, close_brace, quotation_mark}
use Rattle.city_json.specs.Fits.{depth, items_depth, members_depth}
use Rattle.byte_streams.specs.Limits.{max_depth}
use Rattle.city_json.specs.Grammar.{IsBlank, Spaced, SpellsValue, SpellsMoreItems, SpellsMoreMembers, SpellsMember}
use Rattle.city_json.specs.NumberAt.{EndsNumber}
use Rattle.city_json.specs.Reading.{after_white, items_at, member_at, members_at, value_at, text_at}
use Rattle.city_json.specs.Strings.{SpellsString}
use Rattle.city_json.specs.Tree.{Tree, null, boolean, number, string, array, object, ItemTrees, no_items, item, MemberTrees, no_members, member}
use Rattle.city_json.specs.declared.reading.Start.TheVariants as start
use Rattle.city_json.proofs.Scanning.{after_white-blank}
use Rattle.city_json.proofs.SpelledString.{string_at-complete}
use Rattle.city_json.proofs.CompleteParts.{Begins, array_empty, array_read, array_some, begins, ends_blank, ends_item, ends_member, few_items, few_members, item_count, items_at-last, items_at-more, member_at-pieces, member_count, members_at-last, members_at-more, no_close, number_read, object_empty, object_read, object_some, scalar_read, skips, string_read, white_ends, word_read}

-- a string begins with its quotation mark
string_begins : (name s : List ℕ) → SpellsString name s → (tail : List ℕ) × (s ≡ quotation_mark ∷ tail)
    × SpellsString name (quotation_mark ∷ tail)
string_begins name s is = (is.1 ++ quotation_mark ∷ [], is.4, (is.0, is.1, is.2, is.3, refl))

string_found : (levels : ℕ) (text s rest : List ℕ) → SpellsString text s
    → value_at levels (s ++ rest) ≡ Some (string text, rest)
string_found levels text s rest is = let begin = string_begins text s is in
    rw begin.1 (string_read levels text begin.0 rest begin.2)

-- items from the first byte of the first on, with what stands after it
abbrev ItemsText : ItemTrees → List ℕ → Type 0
ItemsText no_items b = ⊥
ItemsText (item value others) b = (text after more : List ℕ) × (b ≡ text ++ (after ++ more)) × SpellsValue value text
    × IsBlank after × SpellsMoreItems others more

-- white space, and items
record ItemsAfter (items : ItemTrees) (b : List ℕ) : Type 0 where
  white : List ℕ
  inner : List ℕ
  is : b ≡ white ++ inner
  blank : IsBlank white
  text : ItemsText items inner
  begin : Begins inner

begins_append : (text b : List ℕ) → Begins text → Begins (text ++ b)
begins_append text b begin = record {
  first = begin.first;
  others = begin.others ++ b;
  is = ap (λ l. l ++ b) begin.is;
  starts = begin.starts;
}

four : (a b c d : List ℕ) → (a ++ (b ++ c)) ++ d ≡ a ++ (b ++ (c ++ d))
four a b c d = simp append_assoc

items_beyond : (value : Tree) (others : ItemTrees) (first more : List ℕ) → Spaced (SpellsValue value) first
    → SpellsMoreItems others more → ItemsAfter (item value others) (first ++ more)
items_beyond value others first more spaced more_is = record {
  white = spaced.0;
  inner = spaced.1 ++ (spaced.2 ++ more);
  is = ap (λ l. l ++ more) spaced.3 ∙ four spaced.0 spaced.1 spaced.2 more;
  blank = spaced.4;
  text = (spaced.1, spaced.2, more, refl, spaced.5, spaced.6, more_is);
  begin = begins_append spaced.1 (spaced.2 ++ more) (begins value spaced.1 spaced.5);
}

-- white space before items is passed over
passes_items : (items : ItemTrees) (b c : List ℕ) → (beyond : ItemsAfter items b)
    → after_white (b ++ c) ≡ beyond.inner ++ c
passes_items items b c beyond =
    rw (beyond.is, append_assoc) (skips beyond.white beyond.inner c beyond.blank beyond.begin)

abbrev MemberText : List ℕ → Tree → List ℕ → Type 0
MemberText name value b = (s before after text : List ℕ) × (b ≡ s ++ (before ++ colon ∷ (after ++ text)))
    × SpellsString name s × IsBlank before × IsBlank after × SpellsValue value text

abbrev MembersText : MemberTrees → List ℕ → Type 0
MembersText no_members b = ⊥
MembersText (member name value others) b = (text after more : List ℕ) × (b ≡ text ++ (after ++ more))
    × MemberText name value text × IsBlank after × SpellsMoreMembers others more

record MembersAfter (members : MemberTrees) (b : List ℕ) : Type 0 where
  white : List ℕ
  inner : List ℕ
  is : b ≡ white ++ inner
  blank : IsBlank white
  text : MembersText members inner
  begin : Begins inner

begins_string : (name s : List ℕ) → SpellsString name s → Begins s
begins_string name s is = record {
  first = quotation_mark;
  others = _;
  is = is.4;
  starts =
      record { dark = refl; no_bracket = refl; no_brace = refl };
}

member_parts : (a b c d e f more : List ℕ) (mark : ℕ)
    → ((a ++ (b ++ c)) ++ mark ∷ (d ++ (e ++ f))) ++ more ≡ a ++ ((b ++ (c ++ mark ∷ (d ++ e))) ++ (f ++ more))
member_parts a b c d e f more mark = simp append_assoc

members_beyond : (name : List ℕ) (value : Tree) (others : MemberTrees) (first more : List ℕ)
    → SpellsMember name (SpellsValue value) first → SpellsMoreMembers others more
    → MembersAfter (member name value others) (first ++ more)
members_beyond name value others first more is more_is =
    let named = is.3 in
    let spaced = is.4 in
    record {
      white = named.0;
      inner = (named.1 ++ (named.2 ++ colon ∷ (spaced.0 ++ spaced.1))) ++ (spaced.2 ++ more);
      is = rw (is.2, named.3, spaced.3) (member_parts named.0 named.1 named.2 spaced.0 spaced.1 spaced.2 more colon);
      blank = named.4;
      text = (
        named.1 ++ (named.2 ++ colon ∷ (spaced.0 ++ spaced.1)),
        spaced.2,
        more,
        refl,
        (named.1, named.2, spaced.0, spaced.1, refl, named.5, named.6, spaced.4, spaced.5),
        spaced.6,
        more_is,
      );
      begin = begins_append _ (spaced.2 ++ more)
          (begins_append named.1 (named.2 ++ colon ∷ (spaced.0 ++ spaced.1)) (begins_string name named.1 named.5));
    }

passes_members : (all : MemberTrees) (b c : List ℕ) → (beyond : MembersAfter all b)
    → after_white (b ++ c) ≡ beyond.inner ++ c
passes_members all b c beyond =
    rw (beyond.is, append_assoc) (skips beyond.white beyond.inner c beyond.blank beyond.begin)

-- A member is read where its value is.
member_found : (levels : ℕ) (name : List ℕ) (value : Tree) (b rest : List ℕ) → (is : MemberText name value b)
    → value_at levels (is.3 ++ rest) ≡ Some (value, rest)
    → member_at (value_at levels) (b ++ rest) ≡ Some ((name, value), rest)
member_found levels name value b rest is found =
    let begin = string_begins name is.0 is.5 in
    let text = begin.0 ++ (is.1 ++ colon ∷ (is.2 ++ (is.3 ++ rest))) in
    member_at-pieces (value_at levels) (b ++ rest) (begin.0 ++ (is.1 ++ colon ∷ (is.2 ++ (is.3 ++ rest))))
    (is.1 ++ colon ∷ (is.2 ++ (is.3 ++ rest))) (is.2 ++ (is.3 ++ rest)) (is.3 ++ rest) rest name value
    (ap (λ l. l ++ rest) (is.4 ∙ ap (λ l. l ++ (is.1 ++ colon ∷ (is.2 ++ is.3))) begin.1)
    ∙ ap (λ l. quotation_mark ∷ l) (member_tail begin.0 is.1 is.2 is.3 rest))
    (string_at-complete name begin.0 (is.1 ++ colon ∷ (is.2 ++ (is.3 ++ rest))) begin.2)
    (after_white-blank is.1 (colon ∷ (is.2 ++ (is.3 ++ rest))) is.6 refl)
    (skips is.2 is.3 rest is.7 (begins value is.3 is.8))
    found
  where
    member_tail : (a b c d e : List ℕ) → (a ++ (b ++ colon ∷ (c ++ d))) ++ e ≡ a ++ (b ++ colon ∷ (c ++ (d ++ e)))
    member_tail a b c d e = simp append_assoc

-- One item and those after it, where the item is read, and the others are, from their first byte on.
items_step : (levels n : ℕ) (value : Tree) (others : ItemTrees) (text after more rest : List ℕ) → IsBlank after
    → SpellsMoreItems others more
    → value_at levels (text ++ (after ++ (more ++ close_bracket ∷ rest))) ≡ Some (
      value,
      after ++ (more ++ close_bracket ∷ rest),
    )
    → ((inner : List ℕ) → ItemsText others inner
    → items_at (value_at levels) n (inner ++ close_bracket ∷ rest) ≡ Some (others, rest))
    → items_at (value_at levels) (suc n) (text ++ (after ++ (more ++ close_bracket ∷ rest))) ≡ Some (
      item value others,
      rest,
    )
items_step levels n value no_items text after more rest blank more_is found further =
    items_at-last (value_at levels) n _ (after ++ (more ++ close_bracket ∷ rest)) rest value found
    (rw more_is (after_white-blank after (close_bracket ∷ rest) blank refl))
items_step levels n value (item next others) text after more rest blank more_is found further =
    let beyond = items_beyond next others more_is.0 more_is.1 more_is.3 more_is.4 in
    items_at-more (value_at levels) n _ (after ++ (more ++ close_bracket ∷ rest))
    ((more_is.0 ++ more_is.1) ++ close_bracket ∷ rest) (beyond.inner ++ close_bracket ∷ rest) rest value
    (item next others) found
    (rw more_is.2 (after_white-blank after (comma ∷ ((more_is.0 ++ more_is.1) ++ close_bracket ∷ rest)) blank refl))
    (passes_items (item next others) (more_is.0 ++ more_is.1) (close_bracket ∷ rest) beyond)
    (further beyond.inner beyond.text)

members_step : (levels n : ℕ) (name : List ℕ) (value : Tree) (others : MemberTrees) (text after more rest : List ℕ)
    → IsBlank after → SpellsMoreMembers others more
    → member_at (value_at levels) (text ++ (after ++ (more ++ close_brace ∷ rest))) ≡ Some (
      (name, value),
      after ++ (more ++ close_brace ∷ rest),
    )
    → ((inner : List ℕ) → MembersText others inner
    → members_at (value_at levels) n (inner ++ close_brace ∷ rest) ≡ Some (others, rest))
    → members_at (value_at levels) (suc n) (text ++ (after ++ (more ++ close_brace ∷ rest)))
    ≡ Some (member name value others, rest)
members_step levels n name value no_members text after more rest blank more_is found further =
    members_at-last (value_at levels) n _ (after ++ (more ++ close_brace ∷ rest)) rest (
      name,
      value,
    ) found (rw more_is (after_white-blank after (close_brace ∷ rest) blank refl))
members_step levels n name value (member next_name next others) text after more rest blank more_is found further =
    let beyond = members_beyond next_name next others more_is.0 more_is.1 more_is.3 more_is.4 in
    members_at-more (value_at levels) n _ (after ++ (more ++ close_brace ∷ rest))
    ((more_is.0 ++ more_is.1) ++ close_brace ∷ rest) (beyond.inner ++ close_brace ∷ rest) rest (
      name,
      value,
    ) (member next_name next others) found
    (rw more_is.2 (after_white-blank after (comma ∷ ((more_is.0 ++ more_is.1) ++ close_brace ∷ rest)) blank refl))
    (passes_members (member next_name next others) (more_is.0 ++ more_is.1) (close_brace ∷ rest) beyond)
    (further beyond.inner beyond.text)

few_in_items : (items : ItemTrees) (b c : List ℕ) → ItemsText items b → item_count items ≤ length (b ++ c)
few_in_items no_items b c is = absurd is
few_in_items (item value others) b c is =
    let begin = begins value is.0 is.4 in
    let longer : length is.0 ≡ suc (length begin.others) = ap length begin.is in
    rw is.3 (simp length-append (omega (arith, few_items others is.2 is.6)))

few_in_members : (members : MemberTrees) (b c : List ℕ) → MembersText members b → member_count members ≤ length (b ++ c)
few_in_members no_members b c is = absurd is
few_in_members (member name value others) b c is =
    let text = is.4 in
    rw (is.3, text.4) (simp length-append (omega (arith, few_members others is.2 is.6)))

mutual
  -- What spells a value is read as it, where the depth allows it.
  pub value_at-complete : (levels : ℕ) (value : Tree) (text rest : List ℕ) → SpellsValue value text
      → depth value ≤ levels → EndsNumber rest → value_at levels (text ++ rest) ≡ Some (value, rest)
  value_at-complete levels null text rest is within ends =
      rw is (scalar_read levels _ _ start.Null refl (λ e. cc) (λ e. cc) ∙ word_read (codes "null") rest null)
  value_at-complete levels (boolean true) text rest is within ends =
      rw is (scalar_read levels _ _ start.True refl (λ e. cc) (λ e. cc) ∙ word_read (codes "true") rest (boolean true))
  value_at-complete levels (boolean false) text rest is within ends =
      rw is (scalar_read levels _ _ start.False refl (λ e. cc) (λ e. cc)
      ∙ word_read (codes "false") rest (boolean false))
  value_at-complete levels (number n) text rest is within ends = rw is.0 (number_read levels n rest is.1 ends)
  value_at-complete levels (string s) text rest is within ends = string_found levels s text rest is
  value_at-complete zero (array items) text rest is within ends = absurd (omega arith)
  value_at-complete zero (object all) text rest is within ends = absurd (omega arith)
  value_at-complete (suc levels) (array no_items) text rest is within ends =
      rw is.1 (array_read levels ((is.0 ++ close_bracket ∷ []) ++ rest)
      ∙ array_empty (value_at levels) ((is.0 ++ close_bracket ∷ []) ++ rest) rest
      (rw append_assoc (after_white-blank is.0 (close_bracket ∷ rest) is.2 refl)))
  value_at-complete (suc levels) (object no_members) text rest is within ends =
      rw is.1 (object_read levels ((is.0 ++ close_brace ∷ []) ++ rest)
      ∙ object_empty (value_at levels) ((is.0 ++ close_brace ∷ []) ++ rest) rest
      (rw append_assoc (after_white-blank is.0 (close_brace ∷ rest) is.2 refl)))
  value_at-complete (suc levels) (array (item value others)) text rest is within ends =
      let spelled = is.2 in
      let beyond = items_beyond value others spelled.0 spelled.1 spelled.3 spelled.4 in
      let found : items_at (value_at levels) (length (beyond.inner ++ close_bracket ∷ rest))
      (beyond.inner ++ close_bracket ∷ rest) ≡ Some (item value others, rest) =
      items_at-complete levels (length (beyond.inner ++ close_bracket ∷ rest))
      (item value others) beyond.inner rest beyond.text (omega arith)
      (few_in_items (item value others) beyond.inner (close_bracket ∷ rest) beyond.text) in
      rw (is.1, append_assoc, spelled.2) (array_read levels _
      ∙ array_some (value_at levels) ((spelled.0 ++ spelled.1) ++ close_bracket ∷ rest)
      (beyond.inner ++ close_bracket ∷ rest) rest (item value others)
      (passes_items (item value others) (spelled.0 ++ spelled.1) (close_bracket ∷ rest) beyond)
      (no_close close_bracket beyond.inner (close_bracket ∷ rest) beyond.begin beyond.begin.starts.no_bracket)
      found)
  value_at-complete (suc levels) (object (member name value others)) text rest is within ends =
      let spelled = is.2 in
      let beyond = members_beyond name value others spelled.0 spelled.1 spelled.3 spelled.4 in
      let found : members_at (value_at levels) (length (beyond.inner ++ close_brace ∷ rest))
      (beyond.inner ++ close_brace ∷ rest) ≡ Some (member name value others, rest) =
      members_at-complete levels (length (beyond.inner ++ close_brace ∷ rest))
      (member name value others) beyond.inner rest beyond.text (omega arith)
      (few_in_members (member name value others) beyond.inner (close_brace ∷ rest) beyond.text) in
      rw (is.1, append_assoc, spelled.2) (object_read levels _
      ∙ object_some (value_at levels) ((spelled.0 ++ spelled.1) ++ close_brace ∷ rest)
      (beyond.inner ++ close_brace ∷ rest) rest (member name value others)
      (passes_members (member name value others) (spelled.0 ++ spelled.1) (close_brace ∷ rest) beyond)
      (no_close close_brace beyond.inner (close_brace ∷ rest) beyond.begin beyond.begin.starts.no_brace) found)

  items_at-complete : (levels n : ℕ) (items : ItemTrees) (inner rest : List ℕ) → ItemsText items inner
      → items_depth items ≤ levels → item_count items ≤ n
      → items_at (value_at levels) n (inner ++ close_bracket ∷ rest) ≡ Some (items, rest)
  items_at-complete levels n no_items inner rest is within few = absurd is
  items_at-complete levels zero (item value others) inner rest is within few = absurd (omega arith)
  items_at-complete levels (suc n) (item value others) inner rest is within few =
      let found : value_at levels (is.0 ++ (is.1 ++ (is.2 ++ close_bracket ∷ rest))) ≡ Some (
        value,
        is.1 ++ (is.2 ++ close_bracket ∷ rest),
      ) =
      value_at-complete levels value is.0 (is.1 ++ (is.2 ++ close_bracket ∷ rest)) is.4 (omega arith)
      (ends_blank is.1 (is.2 ++ close_bracket ∷ rest) is.5 (ends_item others is.2 rest is.6)) in
      rw (is.3, four) (items_step levels n value others is.0 is.1 is.2 rest is.5 is.6 found
      (λ next text. items_at-complete levels n others next rest text (omega arith) (omega arith)))

  members_at-complete : (levels n : ℕ) (members : MemberTrees) (inner rest : List ℕ) → MembersText members inner
      → members_depth members ≤ levels → member_count members ≤ n
      → members_at (value_at levels) n (inner ++ close_brace ∷ rest) ≡ Some (members, rest)
  members_at-complete levels n no_members inner rest is within few = absurd is
  members_at-complete levels zero (member name value others) inner rest is within few = absurd (omega arith)
  members_at-complete levels (suc n) (member name value others) inner rest is within few =
      let text = is.4 in
      let beyond : List ℕ = is.1 ++ (is.2 ++ close_brace ∷ rest) in
      let found : value_at levels (text.3 ++ (is.1 ++ (is.2 ++ close_brace ∷ rest))) ≡ Some (
        value,
        is.1 ++ (is.2 ++ close_brace ∷ rest),
      ) =
      value_at-complete levels value text.3 (is.1 ++ (is.2 ++ close_brace ∷ rest)) text.8 (omega arith)
      (ends_blank is.1 (is.2 ++ close_brace ∷ rest) is.5 (ends_member others is.2 rest is.6)) in
      rw (is.3, four) (members_step levels n name value others is.0 is.1 is.2 rest is.5 is.6
      (member_found levels name value is.0 (is.1 ++ (is.2 ++ close_brace ∷ rest)) is.4 found)
      (λ next next_is. members_at-complete levels n others next rest next_is (omega arith) (omega arith)))

-- A text that spells a value of allowed depth is read as it, with white space after it.
text_value : (levels : ℕ) (b : List ℕ) (value : Tree) → (is : Spaced (SpellsValue value) b) → depth value ≤ levels
    → value_at levels (after_white b) ≡ Some (value, is.2)
text_value levels b value is within =
    let front : after_white b ≡ is.1 ++ is.2 = rw is.3 (skips is.0 is.1 is.2 is.4 (begins value is.1 is.5)) in
    rw front (value_at-complete levels value is.1 is.2 is.5 within (ends_only is.2 is.6))
  where
    ends_only : (white : List ℕ) → IsBlank white → EndsNumber white
    ends_only [] blank = tt
    ends_only (c ∷ white) blank = white_ends c blank.0

-- A text that spells a value of allowed depth is read as it.
pub text_at-complete : (b : List ℕ) (value : Tree) → Spaced (SpellsValue value) b → depth value ≤ max_depth
    → text_at b ≡ Some value
text_at-complete b value is within = rw (text_value max_depth b value is within, white_only is.2 is.6) refl
  where
    white_only : (white : List ℕ) → IsBlank white → after_white white ≡ []
    white_only white blank = ap after_white (sym (append-nil white)) ∙ after_white-blank white [] blank tt

-- A text spells at most one value.
pub one_meaning : (b : List ℕ) (v w : Tree) → Spaced (SpellsValue v) b → Spaced (SpellsValue w) b → v ≡ w
one_meaning b v w v_is w_is =
    let levels = depth v + depth w in
    let first = text_value (depth v + depth w) b v v_is (omega arith) in
    let second = text_value (depth v + depth w) b w w_is (omega arith) in
    ap (λ p. p.0) (same_Some (v, v_is.2) (w, w_is.2) (sym first ∙ second))

-- An array ends by itself, whatever stands after it.
pub array_complete : (levels : ℕ) (items : ItemTrees) (text rest : List ℕ) → SpellsValue (array items) text
    → depth (array items) ≤ levels → value_at levels (text ++ rest) ≡ Some (array items, rest)
array_complete zero items text rest is within = absurd (omega arith)
array_complete (suc levels) no_items text rest is within =
    rw is.1 (array_read levels ((is.0 ++ close_bracket ∷ []) ++ rest)
    ∙ array_empty (value_at levels) ((is.0 ++ close_bracket ∷ []) ++ rest) rest
    (rw append_assoc (after_white-blank is.0 (close_bracket ∷ rest) is.2 refl)))
array_complete (suc levels) (item value others) text rest is within =
    let spelled = is.2 in
    let beyond = items_beyond value others spelled.0 spelled.1 spelled.3 spelled.4 in
    let found : items_at (value_at levels) (length (beyond.inner ++ close_bracket ∷ rest))
    (beyond.inner ++ close_bracket ∷ rest) ≡ Some (item value others, rest) =
    items_at-complete levels (length (beyond.inner ++ close_bracket ∷ rest)) (item value others) beyond.inner rest
    beyond.text (omega arith) (few_in_items (item value others) beyond.inner (close_bracket ∷ rest) beyond.text) in
    rw (is.1, append_assoc, spelled.2) (array_read levels _
    ∙ array_some (value_at levels) ((spelled.0 ++ spelled.1) ++ close_bracket ∷ rest)
    (beyond.inner ++ close_bracket ∷ rest) rest (item value others)
    (passes_items (item value others) (spelled.0 ++ spelled.1) (close_bracket ∷ rest) beyond)
    (no_close close_bracket beyond.inner (close_bracket ∷ rest) beyond.begin beyond.begin.starts.no_bracket) found)

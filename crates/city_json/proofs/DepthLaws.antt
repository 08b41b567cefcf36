-- A value that a text spells nests as deeply as the brackets of the text.
use Rattle.std.proofs.Common.{inl, inr, ◌≡◌, ◌≢◌, ◌↔◌, ◌≤◌, ◌+◌, ◌||◌, ◌++◌, ◌==◌, ℕ, suc, max, Bool, true, false, not, List, [], ◌∷◌, nat_lt, ltb, if◌then◌else◌, refl, arith, ap, sym, ◌∙◌, codes, append_assoc, append-nil, add-zero, zero-add}
use Rattle.std.specs.Char.{encode_utf8}
use Rattle.std.specs.List.{AllByRecursion, list_all}
use Rattle.std.specs.Str.Parse.{AllDigits}
use Rattle.std.proofs.lemmas.Bool.Decides.{nat_tests}
use Rattle.std.proofs.lemmas.Bool.{false≢true, and_parts, ne_eqb, cond_both, le-ltb, lt-ltb, ltb-true, cases_lt, or_right}
use Rattle.city_json.specs.Bytes.{quotation_mark, backslash, open_bracket, close_bracket, open_brace, close_brace, comma, colon}
use Rattle.city_json.specs.Depth.{IsDeep, outside, inside, is_opening, is_closing, unquoted, place_after}
use Rattle.city_json.specs.Fits.{depth, items_depth, members_depth}
use Rattle.byte_streams.specs.Limits.{max_depth}
use Rattle.city_json.specs.Grammar.{IsWhite, IsBlank, Spaced, SpellsMember, SpellsValue, SpellsItems, SpellsMoreItems, SpellsMembers, SpellsMoreMembers, Spells}
use Rattle.city_json.specs.NumberAt.{is_number_byte}
use Rattle.city_json.specs.Strings.{StandsFor, SpellsCharacters, SpellsString}
use Rattle.city_json.specs.Tree.{Tree, null, boolean, number, string, array, object, ItemTrees, no_items, item, MemberTrees, no_members, member}
use Rattle.city_json.proofs.DepthLemmas.{deep_from, IsTrue-deep_from}
use Rattle.city_json.proofs.NumberLaws.{IsNumber-bytes}

-- After these bytes, which begin and end outside strings, as many brackets are open as before, and at most n more on
-- the way.
pub record Rises (n : ℕ) (bytes : List ℕ) : Type 0 where
  pub rises : (opened closed : ℕ) (more : List ℕ) → deep_from opened closed (unquoted outside (bytes ++ more))
      ≡ (nat_lt (closed + max_depth) (opened + n) || deep_from opened closed (unquoted outside more))

or_self : (x : Bool) → (x || x) ≡ x
or_self true = refl
or_self false = refl

or_same : (x y : Bool) → (x || (x || y)) ≡ (x || y)
or_same true y = refl
or_same false y = refl

or_assoc : (x y z : Bool) → ((x || y) || z) ≡ (x || (y || z))
or_assoc true y z = refl
or_assoc false y z = refl

-- the first test of `deep_from`, made twice
over_first : (opened closed : ℕ) (bytes : List ℕ)
    → (nat_lt (closed + max_depth) opened || deep_from opened closed bytes) ≡ deep_from opened closed bytes
over_first opened closed [] = or_self (nat_lt (closed + max_depth) opened)
over_first opened closed (b ∷ bytes) = or_same (nat_lt (closed + max_depth) opened) _

over_max : (closed opened m n k : ℕ) → max m n ≡ k
    → nat_lt (closed + max_depth) (opened + k)
    ≡ (nat_lt (closed + max_depth) (opened + m) || nat_lt (closed + max_depth) (opened + n))
over_max closed opened m n k is = grind (arith, nat_tests)

Rises-nil : Rises 0 []
Rises-nil = record {
  rises = λ opened closed more.
      rw add-zero (sym (over_first opened closed (unquoted outside more)));
}

Rises-append : (m n k : ℕ) (front back : List ℕ) → max m n ≡ k → Rises m front → Rises n back → Rises k (front ++ back)
Rises-append m n k front back is first second = record {
  rises = λ opened closed more.
      rw (
        append_assoc,
        first.rises opened closed (back ++ more),
        second.rises opened closed more,
        over_max closed opened m n k is,
        or_assoc,
      ) refl;
}

-- a byte outside strings that is no bracket
abbrev is_plain : ℕ → Bool
is_plain b = not (b == quotation_mark || (is_opening b || is_closing b))

plain_parts : (x y z : Bool) → not (x || (y || z)) ≡ true → (x ≡ false) × (y ≡ false) × (z ≡ false)
plain_parts true y z is = absurd (false≢true is)
plain_parts false true z is = absurd (false≢true is)
plain_parts false false true is = absurd (false≢true is)
plain_parts false false false is = (refl, refl, refl)

deep_from-plain : (b : ℕ) (bytes : List ℕ) (opened closed : ℕ) → is_opening b ≡ false → is_closing b ≡ false
    → deep_from opened closed (b ∷ bytes) ≡ deep_from opened closed bytes
deep_from-plain b bytes opened closed opening closing =
    rw (opening, closing, add-zero opened, add-zero closed) (over_first opened closed bytes)

Rises-plain : (b n : ℕ) (bytes : List ℕ) → is_plain b ≡ true → Rises n bytes → Rises n (b ∷ bytes)
Rises-plain b n bytes plain rest =
    let (quote, opening, closing) = plain_parts (b == quotation_mark) (is_opening b) (is_closing b) plain in
    record {
      rises = λ opened closed more.
          let shown : unquoted outside (b ∷ (bytes ++ more)) ≡ b ∷ unquoted outside (bytes ++ more) = rw quote refl in
          ap (deep_from opened closed) shown
          ∙ (deep_from-plain b (unquoted outside (bytes ++ more)) opened closed opening closing
          ∙ rest.rises opened closed more);
    }

Rises-all_plain : (bytes : List ℕ) → list_all is_plain bytes ≡ true → Rises 0 bytes
Rises-all_plain [] all = Rises-nil
Rises-all_plain (b ∷ bytes) all =
    let (plain, others) = and_parts (is_plain b) (list_all is_plain bytes) all in
    Rises-plain b 0 bytes plain (Rises-all_plain bytes others)

white_is_plain : (b : ℕ) → IsWhite b → is_plain b ≡ true
white_is_plain b (inl is) = rw is refl
white_is_plain b (inr (inl is)) = rw is refl
white_is_plain b (inr (inr (inl is))) = rw is refl
white_is_plain b (inr (inr (inr is))) = rw is refl

Rises-blank : (bytes : List ℕ) → IsBlank bytes → Rises 0 bytes
Rises-blank [] blank = Rises-nil
Rises-blank (b ∷ bytes) blank = Rises-plain b 0 bytes (white_is_plain b blank.0) (Rises-blank bytes blank.1)

number_byte_is_plain : (b : ℕ) → is_number_byte b ≡ true → is_plain b ≡ true
number_byte_is_plain b is = grind (arith, nat_tests)

Rises-number : (bytes : List ℕ) → AllByRecursion (λ b. is_number_byte b ≡ true) bytes → Rises 0 bytes
Rises-number [] all = Rises-nil
Rises-number (b ∷ bytes) all = Rises-plain b 0 bytes (number_byte_is_plain b all.0) (Rises-number bytes all.1)

-- one bracket more and one less leave as many open
deep_from-same : (bytes : List ℕ) (opened closed : ℕ)
    → deep_from (opened + 1) (closed + 1) bytes ≡ deep_from opened closed bytes
deep_from-same [] opened closed = grind (arith, nat_tests)
deep_from-same (b ∷ bytes) opened closed =
    let first : nat_lt (closed + 1 + max_depth) (opened + 1) ≡ nat_lt (closed + max_depth) opened =
    grind (arith, nat_tests) in
    let more_opened : opened + 1 + (if is_opening b then 1 else 0) ≡ opened + (if is_opening b then 1 else 0) + 1 =
    omega arith in
    let more_closed : closed + 1 + (if is_closing b then 1 else 0) ≡ closed + (if is_closing b then 1 else 0) + 1 =
    omega arith in
    rw (
      first,
      more_opened,
      more_closed,
      deep_from-same bytes (opened + (if is_opening b then 1 else 0)) (closed + (if is_closing b then 1 else 0)),
    ) refl

absorbed : (before most after more : Bool) → (before ≡ true → most ≡ true) → (after ≡ true → most ≡ true)
    → (before || (most || (after || more))) ≡ (most || more)
absorbed before true after more low high = or_right before true refl
absorbed true false after more low high = absurd (false≢true (low refl))
absorbed false false true more low high = absurd (false≢true (high refl))
absorbed false false false more low high = refl

deep_from-opening : (b : ℕ) (bytes : List ℕ) (opened closed : ℕ) → is_opening b ≡ true → is_closing b ≡ false
    → deep_from opened closed (b ∷ bytes) ≡ (nat_lt (closed + max_depth) opened || deep_from (opened + 1) closed bytes)
deep_from-opening b bytes opened closed opening closing = rw (opening, closing, add-zero closed) refl

deep_from-closing : (b : ℕ) (bytes : List ℕ) (opened closed : ℕ) → is_opening b ≡ false → is_closing b ≡ true
    → deep_from opened closed (b ∷ bytes) ≡ (nat_lt (closed + max_depth) opened || deep_from opened (closed + 1) bytes)
deep_from-closing b bytes opened closed opening closing = rw (opening, closing, add-zero opened) refl

over_more : (opened closed n : ℕ) (more : Bool) →
    (nat_lt (closed + max_depth) opened
    || (nat_lt (closed + max_depth) (opened + 1 + n) || (nat_lt (closed + max_depth) (opened + 1) || more)))
    ≡ (nat_lt (closed + max_depth) (opened + suc n) || more)
over_more opened closed n more =
    let one : opened + 1 + n ≡ opened + suc n = omega arith in
    rw one (absorbed _ _ _ more
    (λ over. lt-ltb (closed + 128) (opened + suc n) (omega (arith, ltb-true (closed + 128) opened over)))
    (λ over. lt-ltb (closed + 128) (opened + suc n) (omega (arith, ltb-true (closed + 128) (opened + 1) over))))

-- what stands in brackets rises by one more
Rises-enclosed : (n first last : ℕ) (inner : List ℕ) → is_opening first ≡ true → is_closing first ≡ false
    → (first == quotation_mark) ≡ false
    → is_opening last ≡ false → is_closing last ≡ true → (last == quotation_mark) ≡ false → Rises n inner
    → Rises (suc n) (first ∷ inner ++ last ∷ [])
Rises-enclosed n first last inner opening not_closing first_quote not_opening closing last_quote rises = record {
  rises = λ opened closed more.
      let first_shown : unquoted outside (first ∷ (inner ++ last ∷ more)) ≡ first
      ∷ unquoted outside (inner ++ last ∷ more) = rw first_quote refl in
      let last_shown : unquoted outside (last ∷ more) ≡ last ∷ unquoted outside more = rw last_quote refl in
      let after_last : deep_from (opened + 1) closed (unquoted outside (last ∷ more))
      ≡ (nat_lt (closed + max_depth) (opened + 1) || deep_from opened closed (unquoted outside more)) =
      ap (deep_from (opened + 1) closed) last_shown
      ∙ (deep_from-closing last (unquoted outside more) (opened + 1) closed not_opening closing
      ∙ ap (λ x. nat_lt (closed + max_depth) (opened + 1) || x)
      (deep_from-same (unquoted outside more) opened closed)) in
      ap (λ xs. deep_from opened closed (unquoted outside (first ∷ xs))) (append_assoc inner (last ∷ []) more)
      ∙ (ap (deep_from opened closed) first_shown
      ∙ (deep_from-opening first (unquoted outside (inner ++ last ∷ more)) opened closed opening not_closing
      ∙ (ap (λ x. nat_lt (closed + max_depth) opened || x) (rises.rises (opened + 1) closed (last ∷ more)
      ∙ ap (λ x. nat_lt (closed + max_depth) (opened + 1 + n) || x) after_last)
      ∙ over_more opened closed n (deep_from opened closed (unquoted outside more)))));
}

-- Strings.

-- a byte of a string that neither ends it nor escapes another
abbrev IsInner : ℕ → Type 0
IsInner b = ((b == quotation_mark) ≡ false) × ((b == backslash) ≡ false)

inside-inner : (bytes more : List ℕ) → AllByRecursion IsInner bytes
    → unquoted inside (bytes ++ more) ≡ unquoted inside more
inside-inner [] more all = refl
inside-inner (b ∷ bytes) more all =
    let stays : place_after inside b ≡ inside = rw (all.0.0, all.0.1) refl in
    ap (λ place. unquoted place (bytes ++ more)) stays ∙ inside-inner bytes more all.1

digits-inner : (digits : List ℕ) → AllDigits 16 digits → AllByRecursion IsInner digits
digits-inner [] all = tt
digits-inner (b ∷ digits) all = ((grind (arith, nat_tests), grind (arith, nat_tests)), digits-inner digits all.1)

high_is_inner : (b : ℕ) → 128 ≤ b → IsInner b
high_is_inner b high = (grind (arith, nat_tests), grind (arith, nat_tests))

encoded-inner : (c : ℕ) → c ≢ quotation_mark → c ≢ backslash → AllByRecursion IsInner (encode_utf8 c)
unfolding encode_utf8
encoded-inner c quote slash =
    cond_both (ltb c 128) _ _ (AllByRecursion IsInner) (λ _. ((ne_eqb c 34 quote, ne_eqb c 92 slash), tt))
    (λ _. cond_both (ltb c 2048) _ _ (AllByRecursion IsInner)
    (λ _. (high_is_inner _ (omega arith), (high_is_inner _ (omega arith), tt)))
    (λ _. cond_both (ltb c 65536) _ _ (AllByRecursion IsInner)
    (λ _. (high_is_inner _ (omega arith), (high_is_inner _ (omega arith), (high_is_inner _ (omega arith), tt))))
    (λ _. (
      high_is_inner _ (omega arith),
      (high_is_inner _ (omega arith), (high_is_inner _ (omega arith), (high_is_inner _ (omega arith), tt))),
    ))))

inside-piece : (c : ℕ) (piece more : List ℕ) → StandsFor piece c
    → unquoted inside (piece ++ more) ≡ unquoted inside more
inside-piece c piece more (inl (unescaped, is)) =
    rw is (inside-inner (encode_utf8 c) more (encoded-inner c unescaped.2 unescaped.3))
inside-piece c piece more (inr (inl (letter, is, meaning))) = rw is refl
inside-piece c piece more (inr (inr (inl (digits, is, unit, scalar)))) =
    rw is (inside-inner digits more (digits-inner digits unit.1))
inside-piece c piece more (inr
    (inr (inr (first, second, high, low, is, high_unit, few_high, low_unit, few_low, value)))) =
    rw (is, append_assoc first) (inside-inner first _ (digits-inner first high_unit.1)
    ∙ inside-inner second more (digits-inner second low_unit.1))

inside-characters : (characters body more : List ℕ) → SpellsCharacters characters body
    → unquoted inside (body ++ more) ≡ unquoted inside more
inside-characters [] body more is = rw is refl
inside-characters (c ∷ characters) body more (piece, rest, split, stands, others) =
    rw (split, append_assoc piece rest more) (inside-piece c piece (rest ++ more) stands
    ∙ inside-characters characters rest more others)

unquoted-string : (text bytes more : List ℕ) → SpellsString text bytes
    → unquoted outside (bytes ++ more) ≡ quotation_mark ∷ unquoted outside more
unquoted-string text bytes more (characters, body, is_text, spells, is) =
    rw (is, append_assoc body) (ap (λ xs. quotation_mark ∷ xs)
    (inside-characters characters body (quotation_mark ∷ more) spells))

Rises-string : (text bytes : List ℕ) → SpellsString text bytes → Rises 0 bytes
Rises-string text bytes spells = record {
  rises = λ opened closed more.
      ap (deep_from opened closed) (unquoted-string text bytes more spells)
      ∙ (deep_from-plain quotation_mark (unquoted outside more) opened closed refl refl
      ∙ rw add-zero (sym (over_first opened closed (unquoted outside more))));
}

-- Values.

Rises-spaced : (n : ℕ) (P : List ℕ → Type 0) (bytes : List ℕ) → ((inner : List ℕ) → P inner → Rises n inner)
    → Spaced P bytes → Rises n bytes
Rises-spaced n P bytes rises (before, inner, after, split, blank, spells, blank_after) =
    rw split (Rises-append 0 n n before (inner ++ after) (omega arith) (Rises-blank before blank)
    (Rises-append n 0 n inner after (omega arith) (rises inner spells) (Rises-blank after blank_after)))

Rises-member : (n : ℕ) (name : List ℕ) (P : List ℕ → Type 0) (bytes : List ℕ)
    → ((inner : List ℕ) → P inner → Rises n inner) → SpellsMember name P bytes → Rises n bytes
Rises-member n name P bytes rises (before, after, split, named, spaced) =
    rw split (Rises-append 0 n n before (colon ∷ after) (omega arith)
    (Rises-spaced 0 (SpellsString name) before (Rises-string name) named)
    (Rises-plain colon n after refl (Rises-spaced n P after rises spaced)))

mutual
  Rises-value : (value : Tree) (bytes : List ℕ) → SpellsValue value bytes → Rises (depth value) bytes
  Rises-value null bytes is = rw is (Rises-all_plain (codes "null") refl)
  Rises-value (boolean true) bytes is = rw is (Rises-all_plain (codes "true") refl)
  Rises-value (boolean false) bytes is = rw is (Rises-all_plain (codes "false") refl)
  Rises-value (number text) bytes (is, is_number) = rw is (Rises-number text (IsNumber-bytes text is_number))
  Rises-value (string text) bytes spells = Rises-string text bytes spells
  Rises-value (array items) bytes (inner, is, spells) =
      rw is (Rises-enclosed (items_depth items) open_bracket close_bracket inner refl refl refl refl refl refl
      (Rises-items items inner spells))
  Rises-value (object members) bytes (inner, is, spells) =
      rw is (Rises-enclosed (members_depth members) open_brace close_brace inner refl refl refl refl refl refl
      (Rises-members members inner spells))

  Rises-items : (items : ItemTrees) (bytes : List ℕ) → SpellsItems items bytes → Rises (items_depth items) bytes
  Rises-items no_items bytes blank = Rises-blank bytes blank
  Rises-items (item value others) bytes (first, rest, split, spaced, more) =
      rw split (Rises-append (depth value) (items_depth others) _ first rest refl
      (Rises-spaced (depth value) (SpellsValue value) first (Rises-value value) spaced)
      (Rises-more_items others rest more))

  Rises-more_items : (items : ItemTrees) (bytes : List ℕ) → SpellsMoreItems items bytes
      → Rises (items_depth items) bytes
  Rises-more_items no_items bytes is = rw is Rises-nil
  Rises-more_items (item value others) bytes (next, rest, split, spaced, more) =
      rw split (Rises-plain comma _ (next ++ rest) refl
      (Rises-append (depth value) (items_depth others) _ next rest refl
      (Rises-spaced (depth value) (SpellsValue value) next (Rises-value value) spaced)
      (Rises-more_items others rest more)))

  Rises-members : (members : MemberTrees) (bytes : List ℕ) → SpellsMembers members bytes
      → Rises (members_depth members) bytes
  Rises-members no_members bytes blank = Rises-blank bytes blank
  Rises-members (member name value others) bytes (first, rest, split, spells, more) =
      rw split (Rises-append (depth value) (members_depth others) _ first rest refl
      (Rises-member (depth value) name (SpellsValue value) first (Rises-value value) spells)
      (Rises-more_members others rest more))

  Rises-more_members : (members : MemberTrees) (bytes : List ℕ) → SpellsMoreMembers members bytes
      → Rises (members_depth members) bytes
  Rises-more_members no_members bytes is = rw is Rises-nil
  Rises-more_members (member name value others) bytes (next, rest, split, spells, more) =
      rw split (Rises-plain comma _ (next ++ rest) refl
      (Rises-append (depth value) (members_depth others) _ next rest refl
      (Rises-member (depth value) name (SpellsValue value) next (Rises-value value) spells)
      (Rises-more_members others rest more)))

from_start : (n : ℕ) → (nat_lt (0 + max_depth) (0 + n) || deep_from 0 0 []) ≡ nat_lt 128 n
from_start n = rw zero-add (grind (arith, nat_tests))

pub nests_as_value : (text : List ℕ) (value : Tree) → Spells text value
    → ((¬ (IsDeep text)) ↔ (depth value ≤ max_depth))
nests_as_value text value (utf8, spells) =
    let rises : Rises (depth value) text =
    Rises-spaced (depth value) (SpellsValue value) text (Rises-value value) spells in
    let told : deep_from 0 0 (unquoted outside text) ≡ nat_lt 128 (depth value) =
    ap (λ bytes. deep_from 0 0 (unquoted outside bytes)) (sym (append-nil text))
    ∙ (rises.rises 0 0 [] ∙ from_start (depth value)) in (
      λ not_deep. elim (cases_lt 128 (depth value)) [
        | inl deep ↦ absurd (not_deep ((IsTrue-deep_from text).0 (told ∙ lt-ltb 128 (depth value) deep)))
        | inr few ↦ few
      ],
      λ few deep. false≢true (sym (le-ltb 128 (depth value) few) ∙ (sym told ∙ (IsTrue-deep_from text).1 deep)),
    )

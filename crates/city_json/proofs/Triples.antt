-- Arrays of three whole numbers each: from places in a text to what stands between them.
use Rattle.std.proofs.Common.{◌≡◌, ◌≢◌, ◌⊎◌, ◌∙◌, ◌++◌, ◌+◌, ◌-◌, ◌<◌, ◌≤◌, ◌||◌, ◌==◌, ℕ, zero, suc, true, false, not, List, [], ◌∷◌, length, length-drop, take, drop, get_or, refl, ap, sym, subst, arith, append_assoc, append-nil, inl, inr, slice_range}
use Rattle.std.proofs.lemmas.Bool.{cases_Bool, cases_lt, eqb-true, false≢true}
use Rattle.std.proofs.lemmas.Bool.Decides.{nat_tests}
use Rattle.std.proofs.lemmas.List.{length-take-le, take-take}
use Rattle.std.proofs.lemmas.List.Edits.{between_none}
use Rattle.std.proofs.lemmas.Str.{digit_value_digit}
use Rattle.std.specs.Char.{digit_value, is_ascii_digit}
use Rattle.std.specs.Str.Parse.{AllDigits}
use Rattle.city_json.proofs.Places.{slice_more, slice_one}
use Rattle.city_json.specs.Bytes.{digit_zero, minus, comma, open_bracket, close_bracket}
use Rattle.city_json.specs.Compact.{compact, compact_items}
use Rattle.city_json.specs.Number.{IsWhole}
use Rattle.city_json.specs.Tree.{Tree, ItemTrees, no_items, item}
use Rattle.city_json.specs.Triples.{AreTriples, IsShortNumeral, IsTriple, IsTriplesText, three_numbers}
use Rattle.city_json.specs.TriplesFound.{ClosesTriples, IsInNumber, IsTripleText, PassesTriples, is_separator, with_commas}

-- ---- numbers
digit_range : (c : ℕ) → is_ascii_digit c ≡ true → (48 ≤ c) × (c ≤ 57)
digit_range c is = grind (arith, nat_tests)

digit_small : (c : ℕ) → is_ascii_digit c ≡ true → digit_value c < 10
digit_small c is = let range = digit_range c is in omega (arith, digit_value_digit c range, range)

slice_next : (text : List ℕ) (at end : ℕ) → at < end → end ≤ length text
    → slice_range text at end ≡ get_or text at 0 ∷ slice_range text (at + 1) end
slice_next text at end onward within =
    slice_more text at (at + 1) end (omega arith) (omega arith)
    ∙ ap (λ l. l ++ slice_range text (at + 1) end) (slice_one text at (get_or text at 0) (omega arith) refl)

pub slice_length : (text : List ℕ) (at end : ℕ) → end ≤ length text → length (slice_range text at end) ≡ end - at
slice_length text at end within = length-take-le (end - at) (drop at text) (omega (arith, length-drop at text))

all_digits : (n : ℕ) (text : List ℕ) (at end : ℕ) → end ≡ at + n → end ≤ length text
    → ((i : ℕ) → at ≤ i → i < end → is_ascii_digit (get_or text i 0) ≡ true) → AllDigits 10 (slice_range text at end)
all_digits zero text at end is within digits =
    subst (AllDigits 10) (sym (ap (slice_range text at) (let e : end ≡ at = omega arith in e) ∙ between_none text at)) tt
all_digits (suc n) text at end is within digits =
    subst (AllDigits 10) (sym (slice_next text at end (omega arith) within)) (
      digit_small (get_or text at 0) (digits at (omega arith) (omega arith)),
      all_digits n text (at + 1) end (omega arith) within (λ i onward less. digits i (omega arith) less),
    )

-- after the first byte, each byte is a digit
pub digits_after : (text : List ℕ) (at end i : ℕ) → ((j : ℕ) → at ≤ j → j < end → IsInNumber text j) → at < i → i < end
    → is_ascii_digit (get_or text i 0) ≡ true
digits_after text at end i between onward less = elim (between i (omega arith) less) [
  | inl digit ↦ digit
  | inr there ↦ absurd (false≢true (sym (inner (i - 1) (between (i - 1) (omega arith) (omega arith))) ∙ there.2))
]
  where
    inner : (j : ℕ) → IsInNumber text j → is_separator (get_or text j 0) ≡ false
    inner j (inl digit) = λ k. not (digit k || (get_or text j 0 == minus))
    inner j (inr there) = ap is_separator there.0

whole_is : (text : List ℕ) (at end : ℕ) → at < end → end ≤ length text
    → ((i : ℕ) → at ≤ i → i < end → is_ascii_digit (get_or text i 0) ≡ true)
    → (get_or text at 0 ≢ digit_zero) ⊎ (end ≡ at + 1) → IsWhole (slice_range text at end)
whole_is text at end onward within digits (inl some) =
    let range = digit_range (get_or text at 0) (digits at (omega arith) onward) in
    subst IsWhole (sym (slice_next text at end onward within))
    (inr (
      omega (arith, range, some),
      range.1,
      all_digits (end - (at + 1)) text (at + 1) end (omega arith) within (λ i more less. digits i (omega arith) less),
    ))
whole_is text at end onward within digits (inr one) =
    let range = digit_range (get_or text at 0) (digits at (omega arith) onward) in
    let nothing : slice_range text (at + 1) end ≡ [] = ap (slice_range text (at + 1)) one ∙ between_none text (at + 1) in
    subst IsWhole (sym (slice_next text at end onward within)) (elim (cases_Bool (get_or text at 0 == digit_zero)) [
      | inl is ↦ inl (eqb-true (get_or text at 0) digit_zero is, nothing)
      | inr other ↦ inr (grind (arith, nat_tests, range), range.1, subst (AllDigits 10) (sym nothing) tt)
    ])

pub short_positive : (text : List ℕ) (at end : ℕ) → at < end → end ≤ length text → end ≤ at + 15
    → ((j : ℕ) → at ≤ j → j < end → IsInNumber text j) → get_or text at 0 ≢ minus
    → (get_or text at 0 ≢ digit_zero) ⊎ (end ≡ at + 1) → IsShortNumeral (slice_range text at end)
short_positive text at end onward within few between plain first =
    let digits : (i : ℕ) → at ≤ i → i < end → is_ascii_digit (get_or text i 0) ≡ true = λ i order less.
    elim (between i order less) [
      | inl digit ↦ digit
      | inr there ↦ elim (cases_lt at i) [
        | inl more ↦ digits_after text at end i between more less
        | inr same ↦ absurd (plain (ap (λ k. get_or text k 0) (let e : at ≡ i = omega arith in e) ∙ there.0))
      ]
    ] in
    record {
      sign = [];
      whole = slice_range text at end;
      splits = refl;
      is_sign = inl refl;
      is_whole = whole_is text at end onward within digits first;
      few = omega (arith, slice_length text at end within);
    }

pub short_negative : (text : List ℕ) (at end : ℕ) → at + 1 < end → end ≤ length text → end ≤ at + 16
    → ((j : ℕ) → at ≤ j → j < end → IsInNumber text j) → get_or text at 0 ≡ minus → get_or text (at + 1) 0 ≢ digit_zero
    → IsShortNumeral (slice_range text at end)
short_negative text at end onward within few between is first =
    let digits : (i : ℕ) → at + 1 ≤ i → i < end → is_ascii_digit (get_or text i 0) ≡ true = λ i order less.
    digits_after text at end i between (omega arith) less in
    record {
      sign = minus ∷ [];
      whole = slice_range text (at + 1) end;
      splits = slice_next text at end (omega arith) within ∙ ap (λ c. c ∷ slice_range text (at + 1) end) is;
      is_sign = inr (refl, λ e. first (sym (ap (λ l. get_or l 0 0) (slice_next text (at + 1) end onward within)) ∙ e));
      is_whole = whole_is text (at + 1) end onward within digits (inl first);
      few = omega (arith, slice_length text (at + 1) end within);
    }

-- ---- three numbers
pub mark_slice : (text found : List ℕ) (at end mark : ℕ) → at < length text → get_or text at 0 ≡ mark → at + 1 ≤ end
    → slice_range text (at + 1) end ≡ found → slice_range text at end ≡ mark ∷ found
mark_slice text found at end mark within is onward rest =
    slice_more text at (at + 1) end (omega arith) onward
    ∙ ap (λ l. l ++ slice_range text (at + 1) end) (slice_one text at mark within is) ∙ ap (λ l. mark ∷ l) rest

run_slice : (text found : List ℕ) (at middle end : ℕ) → at ≤ middle → middle ≤ end
    → slice_range text middle end ≡ found → slice_range text at end ≡ slice_range text at middle ++ found
run_slice text found at middle end onward more rest =
    slice_more text at middle end onward more ∙ ap (λ l. slice_range text at middle ++ l) rest

pub regroup : (x y z : List ℕ) → x ++ (comma ∷ (y ++ (comma ∷ (z ++ close_bracket ∷ []))))
    ≡ (x ++ (comma ∷ (y ++ (comma ∷ (z ++ []))))) ++ close_bracket ∷ []
regroup x y z = simp (append_assoc, append-nil)

pub triple_text : (text : List ℕ) (at a b c : ℕ) → c < length text → get_or text at 0 ≡ open_bracket
    → at + 1 ≤ a → get_or text a 0 ≡ comma → IsShortNumeral (slice_range text (at + 1) a)
    → a + 1 ≤ b → get_or text b 0 ≡ comma → IsShortNumeral (slice_range text (a + 1) b)
    → b + 1 ≤ c → get_or text c 0 ≡ close_bracket → IsShortNumeral (slice_range text (b + 1) c)
    → IsTripleText text at (c + 1)
triple_text text at a b c within opened a1 comma_a short_x b1 comma_b short_y c1 closed short_z =
    let x = slice_range text (at + 1) a in
    let y = slice_range text (a + 1) b in
    let z = slice_range text (b + 1) c in
    let last : slice_range text (b + 1) (c + 1) ≡ z ++ close_bracket ∷ [] =
    run_slice text _ (b + 1) c (c + 1) (omega arith) (omega arith) (slice_one text c close_bracket within closed) in
    let second : slice_range text (a + 1) (c + 1) ≡ y ++ (comma ∷ (z ++ close_bracket ∷ [])) =
    run_slice text _ (a + 1) b (c + 1) (omega arith) (omega arith)
    (mark_slice text _ b (c + 1) comma (omega arith) comma_b (omega arith) last) in
    let first : slice_range text (at + 1) (c + 1) ≡ x ++ (comma ∷ (y ++ (comma ∷ (z ++ close_bracket ∷ [])))) =
    run_slice text _ (at + 1) a (c + 1) (omega arith) (omega arith)
    (mark_slice text _ a (c + 1) comma (omega arith) comma_a (omega arith) second) in
    record {
      value = three_numbers x y z;
      triple = record { x = x; y = y; z = z; is = refl; short_x = short_x; short_y = short_y; short_z = short_z };
      written = mark_slice text _ at (c + 1) open_bracket (omega arith) opened (omega arith) first
          ∙ ap (λ l. open_bracket ∷ l) (regroup x y z);
    }

-- ---- one triple after another
pub one_closes : (value : Tree) → IsTriple value → ClosesTriples (compact value ++ close_bracket ∷ [])
one_closes value triple = record {
  first = value;
  others = no_items;
  triple = triple;
  triples = tt;
  written = ap (λ l. l ++ close_bracket ∷ []) (sym (append-nil (compact value)));
}

pub one_more : (value : Tree) (more : List ℕ) → IsTriple value → ClosesTriples more
    → ClosesTriples (compact value ++ comma ∷ more)
one_more value more triple closes = record {
  first = value;
  others = item closes.first closes.others;
  triple = triple;
  triples = (closes.triple, closes.triples);
  written = ap (λ l. compact value ++ comma ∷ l) closes.written
      ∙ sym (append_assoc (compact value) (comma ∷ compact_items (item closes.first closes.others)) (close_bracket ∷ []));
}

pub passes_none : PassesTriples []
passes_none = record { items = no_items; triples = tt; written = refl }

pub passes_one : (value : Tree) → IsTriple value → PassesTriples (compact value ++ comma ∷ [])
passes_one value triple = record { items = item value no_items; triples = (triple, tt); written = refl }

items_pass : (items : ItemTrees) → AreTriples items → (more : List ℕ) → PassesTriples more
    → PassesTriples (with_commas items ++ more)
items_pass no_items are more passed = passed
items_pass (item value others) are more passed =
    let rest = items_pass others are.1 more passed in
    record {
      items = item value rest.items;
      triples = (are.0, rest.triples);
      written = append_assoc (compact value) (comma ∷ with_commas others) more
          ∙ ap (λ l. compact value ++ comma ∷ l) rest.written;
    }

items_close : (items : ItemTrees) → AreTriples items → (more : List ℕ) → ClosesTriples more
    → ClosesTriples (with_commas items ++ more)
items_close no_items are more closes = closes
items_close (item value others) are more closes =
    subst ClosesTriples (sym (append_assoc (compact value) (comma ∷ with_commas others) more))
    (one_more value (with_commas others ++ more) are.0 (items_close others are.1 more closes))

pub both_pass : (front more : List ℕ) → PassesTriples front → PassesTriples more → PassesTriples (front ++ more)
both_pass front more passed further =
    subst (λ l. PassesTriples (l ++ more)) (sym passed.written) (items_pass passed.items passed.triples more further)

pub passed_close : (front more : List ℕ) → PassesTriples front → ClosesTriples more → ClosesTriples (front ++ more)
passed_close front more passed closes =
    subst (λ l. ClosesTriples (l ++ more)) (sym passed.written) (items_close passed.items passed.triples more closes)

-- ---- the front of a block: a triple more, whose text ends at `after`, and the byte there
module _ (bytes : List ℕ) (len after mark : ℕ) (order : len ≤ after) (within : after < length bytes)
    (is : get_or bytes after 0 ≡ mark) (t : IsTripleText bytes len after)
    (before : PassesTriples (take len bytes)) where
  from_start : (n : ℕ) → slice_range bytes 0 n ≡ take n bytes
  from_start n = ap (λ k. take k bytes) (let e : n - 0 ≡ n = omega arith in e)

  front_more : take (after + 1) bytes ≡ take len bytes ++ (compact t.value ++ mark ∷ [])
  front_more =
      let part : slice_range bytes len (after + 1) ≡ compact t.value ++ mark ∷ [] =
      slice_more bytes len after (after + 1) order (omega arith)
      ∙ (λ i. t.written i ++ slice_one bytes after mark within is i) in
      sym (from_start (after + 1)) ∙ slice_more bytes 0 len (after + 1) (omega arith) (omega arith)
      ∙ (λ i. from_start len i ++ part i)

  pub front_closes : mark ≡ close_bracket → ClosesTriples (take (after + 1) bytes)
  front_closes closing = subst ClosesTriples
      (ap (λ m. take len bytes ++ (compact t.value ++ m ∷ [])) (sym closing) ∙ sym front_more)
      (passed_close _ _ before (one_closes t.value t.triple))

  pub front_goes_on : mark ≡ comma → PassesTriples (take (after + 1) bytes)
  front_goes_on going = subst PassesTriples
      (ap (λ m. take len bytes ++ (compact t.value ++ m ∷ [])) (sym going) ∙ sym front_more)
      (both_pass _ _ before (passes_one t.value t.triple))

-- ---- the front of a block that was taken of a text
pub front_of_text : (text block : List ℕ) (at len count : ℕ) → len ≤ count → take count block ≡ take count (drop at text)
    → take len block ≡ slice_range text at (at + len)
front_of_text text block at len count few same =
    let less : (at + len) - at ≡ len = omega arith in
    sym (take-take len count block few) ∙ ap (take len) same ∙ take-take len count (drop at text) few
    ∙ ap (λ n. take n (drop at text)) (sym less)

-- ---- the whole array
pub triples_are : (text : List ℕ) (at end : ℕ) → at + 1 ≤ end → at < length text → get_or text at 0 ≡ open_bracket
    → ClosesTriples (slice_range text (at + 1) end) → IsTriplesText text at end
triples_are text at end order within opened closes = record {
  items = item closes.first closes.others;
  triples = (closes.triple, closes.triples);
  written = mark_slice text _ at end open_bracket within opened order closes.written;
}

-- from the front that was gone through up to the end of another
pub fronts_more : (text : List ℕ) (at i next : ℕ) → at + 1 ≤ i → i ≤ next → PassesTriples (slice_range text (at + 1) i)
    → PassesTriples (slice_range text i next) → PassesTriples (slice_range text (at + 1) next)
fronts_more text at i next order onward before goes =
    subst PassesTriples (sym (slice_more text (at + 1) i next order onward)) (both_pass _ _ before goes)

pub fronts_close : (text : List ℕ) (at i end : ℕ) → at + 1 ≤ i → i ≤ end → at < length text
    → get_or text at 0 ≡ open_bracket → PassesTriples (slice_range text (at + 1) i)
    → ClosesTriples (slice_range text i end) → IsTriplesText text at end
fronts_close text at i end order onward within opened before closes =
    triples_are text at end (omega arith) within opened
    (subst ClosesTriples (sym (slice_more text (at + 1) i end order onward)) (passed_close _ _ before closes))

pub no_front : (text : List ℕ) (at : ℕ) → PassesTriples (slice_range text at at)
no_front text at = subst PassesTriples (sym (between_none text at)) passes_none

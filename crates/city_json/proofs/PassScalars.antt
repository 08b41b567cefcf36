-- Words and numbers that the pass takes as they stand.
use Rattle.std.proofs.Common.{◌≡◌, ◌++◌, ◌∙◌, ◌≤◌, ◌<◌, ◌+◌, ◌-◌, ℕ, List, [], ◌∷◌, Some, length, take, drop, length-take, length-drop, get_or, refl, ap, sym, subst, arith, append-nil, slice_range, Bool, true, false, nat_eq, codes, inl, inr}
use Rattle.std.specs.Str.Parse.{AllDigits}
use Rattle.std.proofs.lemmas.Str.Parse.{digit_from_value}
use Rattle.std.specs.List.{starts_with}
use Rattle.city_json.specs.Number.{IsFraction, IsMinus, IsNumber, IsWhole}
use Rattle.city_json.specs.NumberAt.{number_at, past_digits}
use Rattle.city_json.proofs.NumberLaws.{number_starts, digits-split}
use Rattle.city_json.proofs.NumberLaws as number_laws
use Rattle.std.proofs.lemmas.List.{take_rest, take_at, append_cancel_right}
use Rattle.std.proofs.lemmas.List.Edits.{between_none}
use Rattle.std.proofs.lemmas.List.Folds.{drop_split}
use Rattle.city_json.specs.Bytes.{digit_zero, minus, point}
use Rattle.city_json.specs.Compact.{compact}
use Rattle.city_json.specs.Compacting.{shown, Taken, IsScalarText}
use Rattle.city_json.specs.Fits.{depth, IsDistinct}
use Rattle.city_json.specs.Grammar.{SpellsValue}
use Rattle.city_json.specs.Tree.{Tree, null, boolean, number}
use Rattle.city_json.proofs.Scanning.{starts_with-splits}
use Rattle.city_json.proofs.Places.{shown_more, slice_more, slice_one}

pub scalar_taken : (levels : ℕ) (line text : List ℕ) (from at end : ℕ) → from ≤ at → at < end → IsScalarText text at end
    → Taken levels (drop at text) (drop end text) (shown line text from at) (shown line text from end)
scalar_taken levels line text from at end order onward is = record {
  value = is.value;
  text = slice_range text at end;
  splits = drop_split text at end (omega arith);
  spells = is.spells;
  within = omega (arith, is.flat);
  distinct = is.distinct;
  is_shown = shown_more line text from at end order (omega arith)
      ∙ ap (λ l. shown line text from at ++ l) (sym is.compact);
}

words : (text word : List ℕ) (at end : ℕ) (value : Tree) → slice_range text at end ≡ word → SpellsValue value word
    → depth value ≡ 0 → IsDistinct value → compact value ≡ word → IsScalarText text at end
words text word at end value is spells flat distinct compact = record {
  value = value;
  spells = subst (SpellsValue value) (sym is) spells;
  flat = flat;
  distinct = distinct;
  compact = compact ∙ sym is;
}

pub null_is : (text : List ℕ) (at end : ℕ) → slice_range text at end ≡ codes "null" → IsScalarText text at end
null_is text at end is = words text (codes "null") at end null is refl refl tt refl

pub true_is : (text : List ℕ) (at end : ℕ) → slice_range text at end ≡ codes "true" → IsScalarText text at end
true_is text at end is = words text (codes "true") at end (boolean true) is refl refl tt refl

pub false_is : (text : List ℕ) (at end : ℕ) → slice_range text at end ≡ codes "false" → IsScalarText text at end
false_is text at end is = words text (codes "false") at end (boolean false) is refl refl tt refl

-- `&text[at..]`
pub rest_is : (text : List ℕ) (at : ℕ) → take (length text - at) (drop at text) ≡ drop at text
rest_is text at = take_rest text at

pub word_is : (text word : List ℕ) (at : ℕ) (r : Bool)
    → r ≡ starts_with nat_eq (take (length text - at) (drop at text)) word → r ≡ true
    → slice_range text at (at + length word) ≡ word
word_is text word at r starts so =
    let count : (at + length word) - at ≡ length word = omega arith in
    let front : starts_with nat_eq (drop at text) word ≡ true =
    ap (λ l. starts_with nat_eq l word) (sym (rest_is text at)) ∙ (sym starts ∙ so) in
    ap (λ n. take n (drop at text)) count
    ∙ (ap (take (length word)) (starts_with-splits (drop at text) word front)
    ∙ take_at word (drop (length word) (drop at text)) (length word) refl)

some_length : (text : List ℕ) → IsNumber text → 0 < length text
some_length [] is = absurd (number_starts [] is)
some_length (c ∷ text) is = omega arith

pub number_is : (text found rest : List ℕ) (at : ℕ)
    → Some (found, rest) ≡ number_at (take (length text - at) (drop at text)) → (at < at + length found)
    × IsScalarText text at (at + length found)
number_is text found rest at read =
    let law = number_laws.sound (drop at text) found rest (ap number_at (sym (rest_is text at)) ∙ sym read) in
    let count : (at + length found) - at ≡ length found = omega arith in
    let some = some_length found law.1 in
    let is : slice_range text at (at + length found) ≡ found = ap (λ n. take n (drop at text)) count
    ∙ (ap (take (length found)) law.0 ∙ take_at found rest (length found) refl) in
    (omega arith, words text found at (at + length found) (number found) is (refl, law.1) refl tt refl)

-- digits of which the first is no zero, or a zero
whole_at : (text whole : List ℕ) (at end : ℕ) → slice_range text at end ≡ whole → IsWhole whole
    → IsWhole (slice_range text at end)
whole_at text whole at end is wholly = subst (λ t. IsWhole t) (sym is) wholly

pub zero_is : (text : List ℕ) (at : ℕ) → at < length text → get_or text at 0 ≡ digit_zero
    → IsWhole (slice_range text at (at + 1))
zero_is text at inside is = whole_at text (digit_zero ∷ []) at (at + 1) (slice_one text at digit_zero inside is)
    (inl (refl, refl))

pub digits_are : (text : List ℕ) (at end : ℕ) → at < length text → (get_or text at 0 ≡ digit_zero → ⊥) → at ≤ end
    → end ≤ length text → drop end text ≡ past_digits (drop at text) → at < end → IsWhole (slice_range text at end)
digits_are text at end inside other order fits passed some =
    let split = digits-split (drop at text) in
    let both : slice_range text at end ++ drop end text ≡ split.0 ++ drop end text = sym (drop_split text at end order)
    ∙ (split.1 ∙ ap (λ l. split.0 ++ l) (sym passed)) in
    let is : slice_range text at end ≡ split.0 =
    append_cancel_right (slice_range text at end) split.0 (drop end text) both in
    let first : split.0 ≡ get_or text at 0 ∷ slice_range text (at + 1) end = sym is
    ∙ (slice_more text at (at + 1) end (omega arith) (omega arith)
    ∙ ap (λ l. l ++ slice_range text (at + 1) end) (slice_one text at (get_or text at 0) inside refl)) in
    let digits : AllDigits 10 (get_or text at 0 ∷ slice_range text (at + 1) end) = subst (AllDigits 10) first split.2 in
    let range : (48 ≤ get_or text at 0) × (get_or text at 0 ≤ 57) = digit_from_value (get_or text at 0) digits.0 in
    whole_at text (get_or text at 0 ∷ slice_range text (at + 1) end) at end (is
    ∙ first) (inr (omega (arith, range.0, other), range.1, digits.1))

-- a point and the digits after it, of which there are some
pub fraction_is : (text : List ℕ) (at end : ℕ) → at < length text → get_or text at 0 ≡ point → at + 1 < end
    → end ≤ length text → drop end text ≡ past_digits (drop (at + 1) text) → IsFraction (slice_range text at end)
fraction_is text at end inside is some fits passed =
    let split = digits-split (drop (at + 1) text) in
    let both : slice_range text (at + 1) end ++ drop end text ≡ split.0 ++ drop end text =
    sym (drop_split text (at + 1) end (omega arith)) ∙ (split.1 ∙ ap (λ l. split.0 ++ l) (sym passed)) in
    let digits : slice_range text (at + 1) end ≡ split.0 =
    append_cancel_right (slice_range text (at + 1) end) split.0 (drop end text) both in
    let all : AllDigits 10 (slice_range text (at + 1) end) = subst (AllDigits 10) (sym digits) split.2 in
    let begins : slice_range text at end ≡ point ∷ slice_range text (at + 1) end =
    slice_more text at (at + 1) end (omega arith) (omega arith)
    ∙ ap (λ l. l ++ slice_range text (at + 1) end) (slice_one text at point inside is) in
    let long : 0 < length (slice_range text (at + 1) end) =
    omega (arith, length-take (end - (at + 1)) (drop (at + 1) text), length-drop (at + 1) text) in
    subst (λ t. IsFraction t) (sym begins) (refl, (long, all))

-- a sign or none, a whole part, a fraction or none
decimal_is : (text : List ℕ) (at start whole end : ℕ) → at ≤ start → start ≤ whole → whole ≤ end
    → IsMinus (slice_range text at start) → IsWhole (slice_range text start whole)
    → IsFraction (slice_range text whole end) → IsScalarText text at end
decimal_is text at start whole end first second third signed wholly broken =
    let all : slice_range text at end
    ≡ slice_range text at start ++ (slice_range text start whole ++ (slice_range text whole end ++ [])) =
    slice_more text at start end first (omega arith)
    ∙ ap (λ l. slice_range text at start ++ l) (slice_more text start whole end second third
    ∙ ap (λ l. slice_range text start whole ++ l) (sym (append-nil (slice_range text whole end)))) in
    words text (slice_range text at end) at end (number (slice_range text at end)) refl (
      refl,
      record {
        minus_sign = slice_range text at start;
        whole = slice_range text start whole;
        fraction = slice_range text whole end;
        exponent = [];
        spelled = all;
        is_minus = signed;
        is_whole = wholly;
        is_fraction = broken;
        is_exponent = tt;
      },
    ) refl tt refl

-- the same with no sign
pub unsigned_is : (text : List ℕ) (at whole end : ℕ) → at ≤ whole → whole ≤ end → IsWhole (slice_range text at whole)
    → IsFraction (slice_range text whole end) → IsScalarText text at end
unsigned_is text at whole end order more wholly broken =
    decimal_is text at at whole end (omega arith) order more (inl (between_none text at)) wholly broken

-- and with no fraction
pub plain_whole_is : (text : List ℕ) (at whole : ℕ) → at ≤ whole → IsWhole (slice_range text at whole)
    → IsScalarText text at whole
plain_whole_is text at whole order wholly = unsigned_is text at whole whole order (omega arith) wholly
    (subst (λ t. IsFraction t) (sym (between_none text whole)) tt)

pub negative_is : (text : List ℕ) (at whole end : ℕ) → at < length text → get_or text at 0 ≡ minus → at + 1 ≤ whole
    → whole ≤ end → IsWhole (slice_range text (at + 1) whole) → IsFraction (slice_range text whole end)
    → IsScalarText text at end
negative_is text at whole end inside signed order more wholly broken =
    decimal_is text at (at + 1) whole end (omega arith) order more (inr (slice_one text at minus inside signed)) wholly
    broken

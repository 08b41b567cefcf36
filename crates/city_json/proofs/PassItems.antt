-- Arrays: the items that the pass takes, one after another.
use Rattle.std.proofs.Common.{◌≡◌, ◌++◌, ◌∙◌, ◌≤◌, ◌<◌, ◌+◌, ◌-◌, ℕ, List, [], ◌∷◌, length, drop, get_or, refl, ap, sym, subst, arith, append_assoc, append-nil, slice_range, Bool, true, false}
use Rattle.std.specs.Str.Parse.{AllDigits}
use Rattle.std.proofs.lemmas.Str.Parse.{digit_from_value}
use Rattle.std.proofs.lemmas.Bool.Decides.{nat_tests}
use Rattle.city_json.specs.NumberAt.{past_digits}
use Rattle.city_json.proofs.NumberLaws.{digits-split}
use Rattle.std.proofs.lemmas.List.{append_cancel_right}
use Rattle.std.proofs.lemmas.List.Edits.{between_none}
use Rattle.std.proofs.lemmas.List.Folds.{drop_split}
use Rattle.city_json.specs.Bytes.{space, digit_zero, comma, open_bracket, close_bracket}
use Rattle.city_json.specs.Compact.{compact, compact_items}
use Rattle.city_json.specs.Compacting.{shown, Taken, TakenItems, IsScalarText, ItemsFrom}
use Rattle.city_json.specs.Reading.{after_white, is_white}
use Rattle.city_json.specs.Tree.{array, no_items, item}
use Rattle.city_json.proofs.Scanning.{after_white-splits, after_white-clear}
use Rattle.city_json.proofs.SoundItems.{Found, items-last, items-next}
use Rattle.city_json.proofs.PassScalars.{scalar_taken}
use Rattle.city_json.proofs.Places.{at_mark, drop_one, shown_one, slice_more, slice_one}

pub found_of : {levels : ℕ} {b rest before after : List ℕ} (taken : Taken levels b rest before after)
    → Found levels taken.value b rest
found_of taken = record { text = taken.text; splits = taken.splits; spells = taken.spells; within = taken.within }

pub last_shown : (before value mid after : List ℕ) (close : ℕ) → mid ≡ before ++ value → after ≡ mid ++ close ∷ []
    → after ≡ before ++ ((value ++ []) ++ close ∷ [])
last_shown before value mid after close is then = then
    ∙ (ap (λ l. l ++ close ∷ []) is
    ∙ (append_assoc before value (close ∷ []) ∙ ap (λ l. before ++ (l ++ close ∷ [])) (sym (append-nil value))))

pub next_shown : (before value others mid after : List ℕ) (close : ℕ) → mid ≡ before ++ value
    → after ≡ (mid ++ comma ∷ []) ++ (others ++ close ∷ [])
    → after ≡ before ++ ((value ++ comma ∷ others) ++ close ∷ [])
next_shown before value others mid after close is then =
    let joined : (((before ++ value) ++ comma ∷ []) ++ (others ++ close ∷ [])) ≡ before
    ++ ((value ++ comma ∷ others) ++ close ∷ []) = simp append_assoc in
    then ∙ (ap (λ l. (l ++ comma ∷ []) ++ (others ++ close ∷ [])) is ∙ joined)

pub items_close : (levels : ℕ) (b beyond rest before mid after : List ℕ) → Taken levels b beyond before mid
    → after_white beyond ≡ close_bracket ∷ rest → after ≡ mid ++ close_bracket ∷ []
    → ItemsFrom levels b rest before after
items_close levels b beyond rest before mid after taken closes is = record {
  first = taken.value;
  others = no_items;
  found = items-last levels taken.value b beyond rest (found_of taken) closes;
  distinct = (taken.distinct, tt);
  is_shown = last_shown before (compact taken.value) mid after close_bracket taken.is_shown is;
}

pub items_more : (levels : ℕ) (b beyond next rest before mid after : List ℕ) → Taken levels b beyond before mid
    → after_white beyond ≡ comma ∷ next
    → ItemsFrom levels (after_white next) rest (mid ++ comma ∷ []) after → ItemsFrom levels b rest before after
items_more levels b beyond next rest before mid after taken goes from = record {
  first = taken.value;
  others = item from.first from.others;
  found = items-next levels taken.value (item from.first from.others) b beyond next rest
      (found_of taken) goes from.found;
  distinct = (taken.distinct, from.distinct);
  is_shown = next_shown before (compact taken.value)
      (compact_items (item from.first from.others)) mid after close_bracket taken.is_shown from.is_shown;
}

pub items_begin : (levels : ℕ) (b rest before after : List ℕ) → ItemsFrom levels (after_white b) rest before after
    → TakenItems levels b rest before after
items_begin levels b rest before after from =
    let white = after_white-splits b in
    record {
      items = item from.first from.others;
      inner = white.white ++ from.found.inner;
      splits = white.splits ∙ (ap (λ l. white.white ++ l) from.found.splits
          ∙ sym (append_assoc white.white from.found.inner (close_bracket ∷ rest)));
      spells = from.found.spells white.white white.blank;
      within = from.found.within;
      distinct = from.distinct;
      is_shown = from.is_shown;
    }

pub items_none : (levels : ℕ) (b rest before after : List ℕ) → after_white b ≡ close_bracket ∷ rest
    → after ≡ before ++ close_bracket ∷ [] → TakenItems levels b rest before after
items_none levels b rest before after closes is =
    let white = after_white-splits b in
    record {
      items = no_items;
      inner = white.white;
      splits = white.splits ∙ ap (λ l. white.white ++ l) closes;
      spells = white.blank;
      within = omega arith;
      distinct = tt;
      is_shown = is;
    }

pub array_taken : (levels : ℕ) (b b' rest before before' after : List ℕ) → (levels ≡ 0 → ⊥) → b ≡ open_bracket ∷ b'
    → before' ≡ before ++ open_bracket ∷ [] → TakenItems (levels - 1) b' rest before' after
    → Taken levels b rest before after
array_taken levels b b' rest before before' after some opens is taken = record {
  value = array taken.items;
  text = open_bracket ∷ taken.inner ++ close_bracket ∷ [];
  splits = opens ∙ ap (λ l. open_bracket ∷ l) (taken.splits ∙ sym (append_assoc taken.inner (close_bracket ∷ []) rest));
  spells = (taken.inner, refl, taken.spells);
  within = omega (arith, taken.within);
  distinct = taken.distinct;
  is_shown = taken.is_shown ∙ (ap (λ l. l ++ (compact_items taken.items ++ close_bracket ∷ [])) is
      ∙ append_assoc before (open_bracket ∷ []) (compact_items taken.items ++ close_bracket ∷ []));
}

-- one more item: what the loop reads from `b` on is what it reads after the comma, an item earlier
pub items_step : (levels : ℕ) (b beyond next rest before mid at_mark after_a_mark after : List ℕ)
    → Taken levels b beyond before mid → after_white beyond ≡ comma ∷ next → at_mark ≡ mid
    → after_a_mark ≡ at_mark ++ comma ∷ []
    → ItemsFrom levels (after_white next) rest after_a_mark after → ItemsFrom levels b rest before after
items_step levels b beyond next rest before mid at_mark after_a_mark after taken goes is₁ is₂ from =
    items_more levels b beyond next rest before mid after taken goes
    (subst (λ l. ItemsFrom levels (after_white next) rest l after) (is₂ ∙ ap (λ l. l ++ comma ∷ []) is₁) from)

-- from where white space was skipped
pub items_skip : (levels : ℕ) (b b' rest before before' after : List ℕ) → b' ≡ b → before' ≡ before
    → ItemsFrom levels b' rest before' after → ItemsFrom levels b rest before after
items_skip levels b b' rest before before' after skips is from =
    subst (λ l. ItemsFrom levels b rest l after) is (subst (λ l. ItemsFrom levels l rest before' after) skips from)

pub white_once : (b : List ℕ) → after_white (after_white b) ≡ after_white b
white_once [] = refl
white_once (c ∷ b) = one_more (is_white c) refl (white_once b)
  where
    one_more : (t : Bool) → is_white c ≡ t → after_white (after_white b) ≡ after_white b
        → after_white (after_white (c ∷ b)) ≡ after_white (c ∷ b)
    one_more true is rest = rw is rest
    one_more false is rest = rw (is, is) refl

pub items_start : (levels : ℕ) (b b' rest before before' after : List ℕ) → b' ≡ after_white b → before' ≡ before
    → ItemsFrom levels (after_white b') rest before' after → TakenItems levels b rest before after
items_start levels b b' rest before before' after skips is from =
    items_begin levels b rest before after
    (items_skip levels (after_white b) (after_white b') rest before before' after (ap after_white skips
    ∙ white_once b) is from)

-- the last item, where the bracket was found
pub items_stop : (levels : ℕ) (b beyond rest before mid at_mark after_a_mark : List ℕ) → Taken levels b beyond before mid
    → after_white beyond ≡ close_bracket ∷ rest → at_mark ≡ mid → after_a_mark ≡ at_mark ++ close_bracket ∷ []
    → ItemsFrom levels b rest before after_a_mark
items_stop levels b beyond rest before mid at_mark after_a_mark taken closes is₁ is₂ =
    items_close levels b beyond rest before mid after_a_mark taken closes (is₂ ∙ ap (λ l. l ++ close_bracket ∷ []) is₁)

digit_clear : (c : ℕ) (b : List ℕ) → 48 ≤ c → after_white (c ∷ b) ≡ c ∷ b
digit_clear c b is = after_white-clear (c ∷ b) (grind (arith, nat_tests))

pub zero_clear : (text : List ℕ) (at : ℕ) → at < length text → get_or text at 0 ≡ digit_zero
    → after_white (drop at text) ≡ drop at text
zero_clear text at inside is = ap after_white (drop_one text at digit_zero inside is)
    ∙ sym (drop_one text at digit_zero inside is)

pub digits_clear : (text : List ℕ) (at end : ℕ) → at < length text → at ≤ end → end ≤ length text
    → drop end text ≡ past_digits (drop at text) → at < end → after_white (drop at text) ≡ drop at text
digits_clear text at end inside order fits passed some =
    let split = digits-split (drop at text) in
    let both : slice_range text at end ++ drop end text ≡ split.0 ++ drop end text = sym (drop_split text at end order)
    ∙ (split.1 ∙ ap (λ l. split.0 ++ l) (sym passed)) in
    let is : slice_range text at end ≡ split.0 =
    append_cancel_right (slice_range text at end) split.0 (drop end text) both in
    let first : split.0 ≡ get_or text at 0 ∷ slice_range text (at + 1) end = sym is
    ∙ (slice_more text at (at + 1) end (omega arith) (omega arith)
    ∙ ap (λ l. l ++ slice_range text (at + 1) end) (slice_one text at (get_or text at 0) inside refl)) in
    let digits : AllDigits 10 (get_or text at 0 ∷ slice_range text (at + 1) end) = subst (AllDigits 10) first split.2 in
    let range : (48 ≤ get_or text at 0) × (get_or text at 0 ≤ 57) = digit_from_value (get_or text at 0) digits.0 in
    let begins : drop at text ≡ get_or text at 0 ∷ drop (at + 1) text =
    drop_one text at (get_or text at 0) inside refl in
    ap after_white begins ∙ (digit_clear (get_or text at 0) (drop (at + 1) text) range.0 ∙ sym begins)

-- a whole number and a comma
pub integer_more : (levels : ℕ) (text line rest after : List ℕ) (from at end : ℕ) → from ≤ at → at < end
    → end < length text → IsScalarText text at end → after_white (drop at text) ≡ drop at text
    → get_or text end 0 ≡ comma
    → ItemsFrom levels (after_white (drop (end + 1) text)) rest (shown line text from (end + 1)) after
    → ItemsFrom levels (after_white (drop at text)) rest (shown line text from at) after
integer_more levels text line rest after from at end copied some inside is clear is_comma further =
    let taken = scalar_taken levels line text from at end copied some is in
    let goes : after_white (drop end text) ≡ comma ∷ drop (end + 1) text =
    ap after_white (drop_one text end comma inside is_comma) in
    let stepped = items_step levels (drop at text) (drop end text) (drop (end + 1) text) rest (shown line text from at)
    (shown line text from end) (shown line text from end) (shown line text from (end + 1)) after taken goes refl
    (shown_one line text from end comma (omega arith) inside is_comma) further in
    items_skip levels (after_white (drop at text)) (drop at text) rest (shown line text from at)
    (shown line text from at) after (sym clear) refl stepped

-- a blank that is left out before an item
pub blank_more : (levels : ℕ) (text line line' rest after : List ℕ) (from from' at : ℕ) → at < length text
    → get_or text at 0 ≡ space → line' ≡ shown line text from at → from' ≡ at + 1
    → ItemsFrom levels (after_white (drop (at + 1) text)) rest (shown line' text from' (at + 1)) after
    → ItemsFrom levels (after_white (drop at text)) rest (shown line text from at) after
blank_more levels text line line' rest after from from' at inside is_blank was goes_on =
    items_skip levels (after_white (drop at text)) (after_white (drop (at + 1) text)) rest (shown line text from at)
    (shown line' text from' (at + 1)) after
    (sym (ap after_white (drop_one text at space inside is_blank)))
    (ap (λ n. line' ++ slice_range text n (at + 1)) goes_on
    ∙ (ap (λ l. line' ++ l) (between_none text (at + 1)) ∙ (append-nil line' ∙ was)))

-- the last item, a whole number
pub integer_stop : (levels : ℕ) (text line : List ℕ) (from at end : ℕ) → from ≤ at → at < end → end < length text
    → IsScalarText text at end → after_white (drop at text) ≡ drop at text → get_or text end 0 ≡ close_bracket
    → ItemsFrom levels (after_white (drop at text)) (drop (end + 1) text) (shown line text from at)
    (shown line text from (end + 1))
integer_stop levels text line from at end copied some inside is clear closes =
    items_skip levels (after_white (drop at text)) (drop at text) (drop (end + 1) text) (shown line text from at)
    (shown line text from at) (shown line text from (end + 1)) (sym clear) refl
    (items_stop levels (drop at text) (drop end text) (drop (end + 1) text) (shown line text from at)
    (shown line text from end) (shown line text from end) (shown line text from (end + 1))
    (scalar_taken levels line text from at end copied some is)
    (ap after_white (drop_one text end close_bracket inside closes)) refl
    (shown_one line text from end close_bracket (omega arith) inside closes))

-- what stands at a mark after white space

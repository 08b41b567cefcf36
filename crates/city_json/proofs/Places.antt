-- Places in a text, and what is written where the text up to them is taken.
use Rattle.std.proofs.Common.{◌≡◌, ◌++◌, ◌∙◌, ◌≤◌, ◌<◌, ◌+◌, ◌-◌, ℕ, List, [], ◌∷◌, length, take, drop, get_or, ap, sym, arith, append_assoc, append-nil, length-drop, slice_range}
use Rattle.std.proofs.lemmas.List.Edits.{between_none}
use Rattle.std.proofs.Math.Seq.{take-add}
use Rattle.std.proofs.lemmas.List.{drop-drop, drop_more, take_at}
use Rattle.city_json.specs.Compacting.{shown}
use Rattle.city_json.specs.Reading.{after_white}

pub slice_more : (text : List ℕ) (from at end : ℕ) → from ≤ at → at ≤ end
    → slice_range text from end ≡ slice_range text from at ++ slice_range text at end
slice_more text from at end order more =
    let count : end - from ≡ (at - from) + (end - at) = omega arith in
    let place : from + (at - from) ≡ at = omega arith in
    ap (λ n. take n (drop from text)) count ∙ take-add (at - from) (end - at) (drop from text)
    ∙ ap (λ l. slice_range text from at ++ take (end - at) l) (drop-drop (at - from) from text
    ∙ ap (λ n. drop n text) place)

pub slice_back : (text : List ℕ) (from to : ℕ) → to ≡ length text → from ≤ to
    → slice_range text from to ≡ drop from text
slice_back text from to is within =
    ap (λ l. take (to - from) l) (sym (append-nil (drop from text)))
    ∙ take_at (drop from text) [] (to - from) (omega (arith, length-drop from text, is, within))

pub shown_more : (line text : List ℕ) (from at end : ℕ) → from ≤ at → at ≤ end
    → shown line text from end ≡ shown line text from at ++ slice_range text at end
shown_more line text from at end order more = ap (λ l. line ++ l) (slice_more text from at end order more)
    ∙ sym (append_assoc line (slice_range text from at) (slice_range text at end))

pub nothing_shown : (line text : List ℕ) (from : ℕ) → line ≡ [] → from ≡ 0 → shown line text from 0 ≡ []
nothing_shown line text from no_line at_start = ap (λ l. shown l text from 0) no_line
    ∙ (ap (λ n. shown [] text n 0) at_start ∙ between_none text 0)

pub slice_one : (text : List ℕ) (at b : ℕ) → at < length text → get_or text at 0 ≡ b
    → slice_range text at (at + 1) ≡ b ∷ []
slice_one text at b within is =
    let count : (at + 1) - at ≡ 1 = omega arith in
    ap (λ n. take n (drop at text)) count ∙ ap (take 1) (drop_more text at 0 within) ∙ ap (λ c. c ∷ []) is

pub shown_one : (line text : List ℕ) (from at b : ℕ) → from ≤ at → at < length text → get_or text at 0 ≡ b
    → shown line text from (at + 1) ≡ shown line text from at ++ b ∷ []
shown_one line text from at b order within is = shown_more line text from at (at + 1) order (omega arith)
    ∙ ap (λ l. shown line text from at ++ l) (slice_one text at b within is)

pub drop_one : (text : List ℕ) (at b : ℕ) → at < length text → get_or text at 0 ≡ b
    → drop at text ≡ b ∷ drop (at + 1) text
drop_one text at b within is = drop_more text at 0 within ∙ ap (λ c. c ∷ drop (at + 1) text) is

pub at_mark : (text b : List ℕ) (i mark : ℕ) → drop i text ≡ after_white b → i < length text → get_or text i 0 ≡ mark
    → after_white b ≡ mark ∷ drop (i + 1) text
at_mark text b i mark skipped within is = sym skipped ∙ drop_one text i mark within is

pub mark_shown : (line text before : List ℕ) (from i mark : ℕ) → from ≤ i → i < length text → get_or text i 0 ≡ mark
    → shown line text from i ≡ before → shown line text from (i + 1) ≡ before ++ mark ∷ []
mark_shown line text before from i mark order within is was = shown_one line text from i mark order within is
    ∙ ap (λ l. l ++ mark ∷ []) was

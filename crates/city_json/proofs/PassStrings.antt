-- Strings and names that the pass takes, as they stand or written anew.
use Rattle.std.proofs.Common.{◌≡◌, ◌++◌, ◌∙◌, ◌≤◌, ◌<◌, ◌+◌, ◌-◌, ℕ, suc, List, [], ◌∷◌, Some, length, take, drop, get_or, ap, sym, subst, arith, append_assoc, slice_range, IsUtf8, length-drop}
use Rattle.std.specs.Str.{IsCharBoundary}
use Rattle.std.specs.List.{prefix_len}
use Rattle.std.proofs.lemmas.Str.{IsUtf8-between, IsCharBoundary-after_ascii, IsCharBoundary-before_ascii}
use Rattle.std.proofs.lemmas.Grind.{flat_map-append}
use Rattle.city_json.specs.ReadString.{is_plain, decoded}
use Rattle.city_json.proofs.CompactText.{written_run}
use Rattle.city_json.proofs.ReadString.{string_at-some, checked-some}
use Rattle.city_json.proofs.StringSteps.{run_closes}
use Rattle.std.proofs.lemmas.List.{drop-drop, take_rest, get_or-drop, take-append-drop, append_cancel_right}
use Rattle.std.proofs.lemmas.List.Folds.{drop_split}
use Rattle.std.specs.List.{flat_map}
use Rattle.city_json.specs.Bytes.{colon, quotation_mark}
use Rattle.city_json.specs.Compact.{written, quoted}
use Rattle.city_json.specs.Compacting.{shown, Taken, TakenString, TakenName, TakenStart, IsPlainString}
use Rattle.city_json.specs.Reading.{after_white}
use Rattle.city_json.specs.Strings.{SpellsString}
use Rattle.city_json.specs.Tree.{string}
use Rattle.city_json.proofs.SpelledString.{string_at-sound}
use Rattle.city_json.proofs.PassScalars.{rest_is}
use Rattle.city_json.proofs.Places.{drop_one, shown_more, slice_more, slice_one}

pub plain_string_is : (text : List ℕ) (at long : ℕ) → IsUtf8 text → 0 < at → get_or text (at - 1) 0 ≡ quotation_mark
    → at ≤ length text
    → long ≡ prefix_len is_plain (take (length text - at) (drop at text)) → at + long < length text
    → get_or text (at + long) 0 ≡ quotation_mark → IsPlainString text at (at + long)
plain_string_is text at long utf8 some opened fits run within closed =
    let beyond = drop at text in
    let run' : long ≡ prefix_len is_plain beyond = run ∙ ap (prefix_len is_plain) (rest_is text at) in
    let room : long < length beyond = omega (arith, length-drop at text) in
    let mark : get_or beyond long 0 ≡ quotation_mark = get_or-drop at text long 0 ∙ closed in
    let count : (at + long) - at ≡ long = omega arith in
    let slice : slice_range text at (at + long) ≡ take long beyond = ap (λ n. take n beyond) count in
    let place : at + (long + 1) ≡ suc (at + long) = omega arith in
    let left : take (length beyond - (long + 1)) (drop (long + 1) beyond) ≡ drop (suc (at + long)) text =
    take_rest beyond (long + 1) ∙ (drop-drop (long + 1) at text ∙ ap (λ n. drop n text) place) in
    let decodes : decoded beyond ≡ Some (take long beyond, drop (suc (at + long)) text) =
    run_closes beyond long run' room mark ∙ ap (λ l. Some (take long beyond, l)) left in
    let start : IsCharBoundary text at =
    subst (IsCharBoundary text) (omega arith)
    (IsCharBoundary-after_ascii text (at - 1) utf8 (omega arith) (omega (arith, opened))) in
    let stop : IsCharBoundary text (at + long) =
    IsCharBoundary-before_ascii text (at + long) within (omega (arith, closed)) in
    let whole : IsUtf8 (slice_range text at (at + long)) =
    IsUtf8-between text at (at + long) utf8 (omega arith) start stop in
    let whole' : IsUtf8 (take long beyond) = subst IsUtf8 slice whole in
    let parts : flat_map written beyond ≡ flat_map written (take long beyond) ++ flat_map written (drop long beyond) =
    ap (flat_map written) (sym (take-append-drop long beyond))
    ∙ flat_map-append written (take long beyond) (drop long beyond) in
    let as_is : take long beyond ++ flat_map written (drop long beyond) ≡ flat_map written beyond =
    subst (λ n. take n beyond ++ flat_map written (drop n beyond) ≡ flat_map written beyond) (sym run')
    (written_run beyond) in
    record {
      closed = closed;
      is_read = string_at-some beyond (take long beyond) (drop (suc (at + long)) text) decodes
          ∙ (checked-some (take long beyond) (drop (suc (at + long)) text) whole'
          ∙ ap (λ l. Some (l, drop (suc (at + long)) text)) (sym slice));
      compact = ap (flat_map written) slice
          ∙ (sym (append_cancel_right (take long beyond) (flat_map written (take long beyond))
          (flat_map written (drop long beyond)) (as_is ∙ parts)) ∙ sym slice);
    }

-- what the string's characters and its closing mark are in the text
pub record PlainParts (text : List ℕ) (at close : ℕ) : Type 0 where
  pub spells : SpellsString (slice_range text (at + 1) close) (slice_range text at (close + 1))
  pub is : quoted (slice_range text (at + 1) close) ≡ slice_range text at (close + 1)
  pub inner_spells : SpellsString (slice_range text (at + 1) close)
      (quotation_mark ∷ slice_range text (at + 1) (close + 1))

pub plain_parts : (text : List ℕ) (at close : ℕ) → at < length text → get_or text at 0 ≡ quotation_mark → at + 1 ≤ close
    → close < length text → IsPlainString text (at + 1) close → PlainParts text at close
plain_parts text at close within opened order fits plainly =
    let content = slice_range text (at + 1) close in
    let law = string_at-sound (drop (at + 1) text) content (drop (suc close) text) plainly.is_read in
    let next : suc close ≡ close + 1 = omega arith in
    let both : slice_range text (at + 1) (close + 1) ++ drop (close + 1) text ≡ law.0 ++ drop (close + 1) text =
    sym (drop_split text (at + 1) (close + 1) (omega arith)) ∙ (law.1 ∙ ap (λ n. law.0 ++ drop n text) next) in
    let consumed : slice_range text (at + 1) (close + 1) ≡ law.0 =
    append_cancel_right (slice_range text (at + 1) (close + 1)) law.0 (drop (close + 1) text) both in
    let front : slice_range text at (close + 1) ≡ quotation_mark ∷ slice_range text (at + 1) (close + 1) =
    slice_more text at (at + 1) (close + 1) (omega arith) (omega arith)
    ∙ ap (λ l. l ++ slice_range text (at + 1) (close + 1)) (slice_one text at quotation_mark within opened) in
    let last : slice_range text (at + 1) (close + 1) ≡ content ++ quotation_mark ∷ [] =
    slice_more text (at + 1) close (close + 1) order (omega arith)
    ∙ ap (λ l. content ++ l) (slice_one text close quotation_mark fits plainly.closed) in
    record {
      inner_spells = subst (SpellsString content) (sym (ap (λ l. quotation_mark ∷ l) consumed)) law.2;
      spells = subst (SpellsString content) (sym (front ∙ ap (λ l. quotation_mark ∷ l) consumed)) law.2;
      is = ap (λ l. quotation_mark ∷ (l ++ quotation_mark ∷ [])) plainly.compact
          ∙ sym (front ∙ ap (λ l. quotation_mark ∷ l) last);
    }

-- a string without escapes stands in its one spelling
pub plain_taken : (text line : List ℕ) (from at close : ℕ) → from ≤ at → at < length text
    → get_or text at 0 ≡ quotation_mark → at + 1 ≤ close → close < length text → IsPlainString text (at + 1) close
    → TakenString (slice_range text (at + 1) close) (drop at text) (drop (close + 1) text) (shown line text from at)
    (shown line text from (close + 1))
plain_taken text line from at close copied within opened order fits plainly =
    let parts = plain_parts text at close within opened order fits plainly in
    record {
      inner = slice_range text (at + 1) (close + 1);
      splits = drop_one text at quotation_mark within opened
          ∙ ap (λ l. quotation_mark ∷ l) (drop_split text (at + 1) (close + 1) (omega arith));
      spells = parts.inner_spells;
      is_shown = shown_more line text from at (close + 1) copied (omega arith)
          ∙ ap (λ l. shown line text from at ++ l) (sym parts.is);
    }

pub string_taken : (levels : ℕ) (content b rest before after : List ℕ) → TakenString content b rest before after
    → Taken levels b rest before after
string_taken levels content b rest before after taken = record {
  value = string content;
  text = quotation_mark ∷ taken.inner;
  splits = taken.splits;
  spells = taken.spells;
  within = omega arith;
  distinct = tt;
  is_shown = taken.is_shown;
}

-- a name that was put after the names
pub name_taken : (name b rest before after : List ℕ) (one two : List (List ℕ)) → TakenString name b rest before after
    → two ≡ one ++ name ∷ [] → TakenName b rest before after one two
name_taken name b rest before after one two taken listed = record { name = name; taken = taken; names_are = listed }

-- a name, white space, a colon, and white space
pub start_taken : (b beyond next rest before at_name at_colon after_colon after : List ℕ)
    (one two three : List (List ℕ)) → TakenName b beyond before at_name one two → after_white beyond ≡ colon ∷ next
    → at_colon ≡ at_name → after_colon ≡ at_colon ++ colon ∷ []
    → rest ≡ after_white next → after ≡ after_colon → three ≡ two → TakenStart b rest before after one three
start_taken b beyond next rest before at_name at_colon after_colon after one two three named goes is₁ is₂ starts is₃
    same =
    let shows : after ≡ at_name ++ colon ∷ [] = is₃ ∙ (is₂ ∙ ap (λ l. l ++ colon ∷ []) is₁) in
    record {
      name = named.name;
      inner = named.taken.inner;
      left = beyond;
      next = next;
      splits = named.taken.splits;
      spells = named.taken.spells;
      goes_on = goes;
      starts = starts;
      is_shown = shows ∙ (ap (λ l. l ++ colon ∷ []) named.taken.is_shown
          ∙ append_assoc before (quoted named.name) (colon ∷ []));
      names_are = same ∙ named.names_are;
    }

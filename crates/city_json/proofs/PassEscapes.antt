-- Strings with escapes, which the pass writes piece by piece.
use Rattle.std.proofs.Common.{◌≡◌, ◌⊎◌, ◌++◌, ◌∙◌, ◌≤◌, ◌<◌, ◌+◌, ◌-◌, ◌==◌, ℕ, suc, Bool, true, false, cond, List, [], ◌∷◌, Some, length, take, drop, get_or, nat_lt, refl, ap, sym, subst, inl, inr, arith, append_assoc, append-nil, slice_range, IsUtf8, length-drop, length-append, encode_utf8}
use Rattle.std.specs.List.{flat_map, prefix_len}
use Rattle.std.proofs.Math.Seq.{drop-append-add}
use Rattle.std.proofs.lemmas.Bool.{cases_Bool, cond-true, cond-false}
use Rattle.std.proofs.lemmas.Grind.{flat_map-append}
use Rattle.std.proofs.lemmas.List.{drop-drop, drop_at, take-append-drop, append_cancel_right}
use Rattle.std.proofs.lemmas.List.Edits.{between_none}
use Rattle.std.proofs.lemmas.Str.{IsUtf8-drop, IsCharBoundary-after_ascii}
use Rattle.city_json.specs.Bytes.{quotation_mark, backslash, backspace, form_feed, newline, carriage_return, tab, space}
use Rattle.city_json.specs.Compact.{written, quoted}
use Rattle.city_json.specs.Compacting.{shown, TakenString, TakenAnew, TakenEscape}
use Rattle.city_json.specs.ReadString.{is_plain, decoded, escape_at, prepend}
use Rattle.city_json.proofs.CompactText.{written_run}
use Rattle.city_json.proofs.DecodedText.{utf8_decoded}
use Rattle.city_json.proofs.PassScalars.{rest_is}
use Rattle.city_json.proofs.Places.{drop_one, shown_more, shown_one}
use Rattle.city_json.proofs.ReadString.{checked-some, decoded-escape, decoded-front, decoded-quote, escape_at-sound, prepend-prepend, string_at-some}
use Rattle.city_json.proofs.SpelledString.{string_at-sound}

-- some characters were taken, and the rest is still to be taken
pub record TakenPieces (b rest before after : List ℕ) : Type 0 where
  pub content : List ℕ
  pub is_read : decoded b ≡ prepend content (decoded rest)
  pub is_shown : after ≡ before ++ flat_map written content

-- the bytes between two places stand for themselves
pub record PlainRun (text : List ℕ) (at stop : ℕ) : Type 0 where
  pub is_read : decoded (drop at text) ≡ prepend (slice_range text at stop) (decoded (drop stop text))
  pub as_is : flat_map written (slice_range text at stop) ≡ slice_range text at stop

pub plain_run : (text : List ℕ) (at long : ℕ) → long ≡ prefix_len is_plain (take (length text - at) (drop at text))
    → PlainRun text at (at + long)
plain_run text at long run =
    let beyond = drop at text in
    let is : long ≡ prefix_len is_plain beyond = run ∙ ap (prefix_len is_plain) (rest_is text at) in
    let count : (at + long) - at ≡ long = omega arith in
    let slice : slice_range text at (at + long) ≡ take long beyond = ap (λ n. take n beyond) count in
    let left : drop long beyond ≡ drop (at + long) text = drop-drop long at text in
    let parts : flat_map written beyond ≡ flat_map written (take long beyond) ++ flat_map written (drop long beyond) =
    ap (flat_map written) (sym (take-append-drop long beyond))
    ∙ flat_map-append written (take long beyond) (drop long beyond) in
    let whole : take long beyond ++ flat_map written (drop long beyond) ≡ flat_map written beyond =
    subst (λ n. take n beyond ++ flat_map written (drop n beyond) ≡ flat_map written beyond) (sym is)
    (written_run beyond) in
    let same : flat_map written (take long beyond) ≡ take long beyond =
    sym (append_cancel_right (take long beyond) (flat_map written (take long beyond))
    (flat_map written (drop long beyond)) (whole ∙ parts)) in
    let read : decoded beyond ≡ prepend (take long beyond) (decoded (drop long beyond)) =
    subst (λ n. decoded beyond ≡ prepend (take n beyond) (decoded (drop n beyond))) (sym is)
    (decoded-front beyond) in
    record {
      is_read = read ∙ (ap (λ l. prepend l (decoded (drop long beyond))) (sym slice)
          ∙ ap (λ l. prepend (slice_range text at (at + long)) (decoded l)) left);
      as_is = ap (flat_map written) slice ∙ (same ∙ sym slice);
    }

run_shown : (before content run mid after : List ℕ) → flat_map written run ≡ run
    → mid ≡ before ++ flat_map written content → after ≡ mid ++ run
    → after ≡ before ++ flat_map written (content ++ run)
run_shown before content run mid after as_is was now =
    let joined : flat_map written (content ++ run) ≡ flat_map written content ++ run =
    flat_map-append written content run ∙ ap (λ l. flat_map written content ++ l) as_is in
    now ∙ (ap (λ l. l ++ run) was ∙ (append_assoc before (flat_map written content) run
    ∙ ap (λ l. before ++ l) (sym joined)))

character_shown : (before content character mid after : List ℕ) → mid ≡ before ++ flat_map written content
    → after ≡ mid ++ flat_map written character → after ≡ before ++ flat_map written (content ++ character)
character_shown before content character mid after was now =
    now ∙ (ap (λ l. l ++ flat_map written character) was
    ∙ (append_assoc before (flat_map written content) (flat_map written character)
    ∙ ap (λ l. before ++ l) (sym (flat_map-append written content character))))

-- a run of bytes that stand for themselves, and an escape
pub piece_more : (b text line before after : List ℕ) (from i stop end : ℕ) → from ≤ i → i ≤ stop → stop < length text
    → get_or text stop 0 ≡ backslash → PlainRun text i stop
    → TakenPieces b (drop i text) before (shown line text from i)
    → TakenEscape (drop (stop + 1) text) (drop end text) (shown line text from stop) after
    → TakenPieces b (drop end text) before after
piece_more b text line before after from i stop end copied order within is_escape run so_far escape =
    let content = so_far.content in
    let bytes = slice_range text i stop in
    let character = encode_utf8 escape.character in
    let next : decoded (drop stop text) ≡ prepend character (decoded (drop end text)) =
    ap decoded (drop_one text stop backslash within is_escape)
    ∙ decoded-escape (drop (stop + 1) text) (escape.character, drop end text) escape.is_read in
    record {
      content = (content ++ bytes) ++ character;
      is_read = so_far.is_read ∙ (ap (prepend content) (run.is_read ∙ ap (prepend bytes) next)
          ∙ (prepend-prepend content bytes (prepend character (decoded (drop end text)))
          ∙ prepend-prepend (content ++ bytes) character (decoded (drop end text))));
      is_shown = character_shown before (content ++ bytes) character (shown line text from stop) after
          (run_shown before content bytes (shown line text from i) (shown line text from stop) run.as_is so_far.is_shown
          (shown_more line text from i stop copied order)) escape.is_shown;
    }

mark_first : (before content after : List ℕ) → after ≡ (before ++ quotation_mark ∷ []) ++ flat_map written content
    → after ++ quotation_mark ∷ [] ≡ before ++ quoted content
mark_first before content after is =
    ap (λ l. l ++ quotation_mark ∷ []) (is ∙ append_assoc before (quotation_mark ∷ []) (flat_map written content))
    ∙ append_assoc before (quotation_mark ∷ flat_map written content) (quotation_mark ∷ [])

-- a run of bytes that stand for themselves, and the closing mark
pub pieces_end : (text line₀ line : List ℕ) (from₀ from at i stop : ℕ) → IsUtf8 text → from₀ ≤ at → at < length text
    → get_or text at 0 ≡ quotation_mark → from ≤ i → i ≤ stop → stop < length text → get_or text stop 0 ≡ quotation_mark
    → PlainRun text i stop
    → TakenPieces (drop (at + 1) text) (drop i text) (shown line₀ text from₀ (at + 1)) (shown line text from i)
    → TakenAnew text at (stop + 1) (shown line₀ text from₀ at) (shown line text from (stop + 1))
pieces_end text line₀ line from₀ from at i stop utf8 copied₀ opens is_open copied order within closes run so_far =
    let bytes = slice_range text i stop in
    let content = so_far.content ++ bytes in
    let rest = drop (stop + 1) text in
    let last : decoded (drop stop text) ≡ Some ([], rest) = ap decoded (drop_one text stop quotation_mark within closes)
    ∙ decoded-quote rest in
    let read : decoded (drop (at + 1) text) ≡ Some (content, rest) = so_far.is_read
    ∙ (ap (prepend so_far.content) (run.is_read ∙ ap (prepend bytes) last)
    ∙ ap (λ l. Some (so_far.content ++ l, rest)) (append-nil bytes)) in
    let inside : IsUtf8 (drop (at + 1) text) =
    IsUtf8-drop text (at + 1) utf8 (IsCharBoundary-after_ascii text at utf8 opens (omega (arith, is_open))) in
    let law = string_at-sound (drop (at + 1) text) content rest (string_at-some (drop (at + 1) text) content rest read
    ∙ checked-some content rest (utf8_decoded (drop (at + 1) text) content rest inside read)) in
    let one : shown line text from stop ≡ shown line₀ text from₀ (at + 1) ++ flat_map written content =
    run_shown (shown line₀ text from₀ (at + 1)) so_far.content bytes (shown line text from i)
    (shown line text from stop) run.as_is so_far.is_shown (shown_more line text from i stop copied order) in
    let two : shown line text from stop ≡ (shown line₀ text from₀ at ++ quotation_mark ∷ [])
    ++ flat_map written content = one
    ∙ ap (λ l. l ++ flat_map written content)
    (shown_one line₀ text from₀ at quotation_mark copied₀ opens is_open) in
    let place : (stop + 1) - 1 ≡ stop = omega arith in
    record {
      content = content;
      is_read = read;
      closed = ap (λ n. get_or text n 0) place ∙ closes;
      taken = record {
        inner = law.0;
        splits = drop_one text at quotation_mark opens is_open ∙ ap (λ l. quotation_mark ∷ l) law.1;
        spells = law.2;
        is_shown = shown_one line text from stop quotation_mark (omega (arith, copied, order)) within closes
            ∙ mark_first (shown line₀ text from₀ at) content (shown line text from stop) two;
      };
    }

-- where a run of bytes ends
pub run_within : (text : List ℕ) (at long : ℕ) → at ≤ length text
    → long ≤ length (take (length text - at) (drop at text)) → at + long ≤ length text
run_within text at long inside fits = omega (arith, inside, fits, ap length (rest_is text at), length-drop at text)

-- where an escape ends
pub record EscapeEnd (text rest : List ℕ) (at : ℕ) : Type 0 where
  pub short : length rest ≤ length text
  pub onward : at < length text - length rest
  pub is : drop (length text - length rest) text ≡ rest

pub escape_end : (text rest : List ℕ) (at character : ℕ) → at < length text
    → escape_at (take (length text - (at + 1)) (drop (at + 1) text)) ≡ Some (character, rest) → EscapeEnd text rest at
escape_end text rest at character within read =
    let found = escape_at-sound (drop (at + 1) text) (character, rest) (ap escape_at (sym (rest_is text (at + 1)))
    ∙ read) in
    let long : length (drop (at + 1) text) ≡ length found.0 + length rest = ap length found.1
    ∙ length-append found.0 rest in
    let count : length text ≡ (at + 1) + (length found.0 + length rest) = omega (arith, length-drop (at + 1) text) in
    let place : length text - length rest ≡ (at + 1) + length found.0 = omega arith in
    record {
      short = omega arith;
      onward = omega arith;
      is = ap (λ n. drop n text) place
          ∙ (sym (drop-drop (length found.0) (at + 1) text)
          ∙ (ap (drop (length found.0)) found.1 ∙ drop_at found.0 rest (length found.0) refl));
    }

pub escape_taken : (text rest line before after : List ℕ) (at from character : ℕ)
    → escape_at (take (length text - (at + 1)) (drop (at + 1) text)) ≡ Some (character, rest) → EscapeEnd text rest at
    → from ≡ length text - length rest → line ≡ before → after ≡ line ++ flat_map written (encode_utf8 character)
    → TakenEscape (drop (at + 1) text) (drop (length text - length rest) text) before
    (shown after text from (length text - length rest))
escape_taken text rest line before after at from character read end place was now = record {
  character = character;
  is_read = ap escape_at (sym (rest_is text (at + 1))) ∙ (read ∙ ap (λ l. Some (character, l)) (sym end.is));
  is_shown = ap (λ n. after ++ slice_range text n (length text - length rest)) place
      ∙ (ap (λ l. after ++ l) (between_none text (length text - length rest))
      ∙ (append-nil after ∙ (now ∙ ap (λ l. l ++ flat_map written (encode_utf8 character)) was)));
}

-- what is written for a byte is that byte, or begins with a backslash
abbrev IsItselfOrEscape : ℕ → List ℕ → Type 0
IsItselfOrEscape b bytes = (bytes ≡ b ∷ []) ⊎ ((more : List ℕ) × (bytes ≡ backslash ∷ more))

one_way : (b : ℕ) (t : Bool) (more others : List ℕ) → IsItselfOrEscape b others
    → IsItselfOrEscape b (cond t (backslash ∷ more) others)
one_way b true more others is = inr (more, refl)
one_way b false more others is = is

written_cases : (b : ℕ) → IsItselfOrEscape b (written b)
written_cases b =
    one_way b (b == quotation_mark) _ _
    (one_way b (b == backslash) _ _
    (one_way b (b == backspace) _ _
    (one_way b (b == form_feed) _ _
    (one_way b (b == newline) _ _ (one_way b (b == carriage_return) _ _
    (one_way b (b == tab) _ _ (one_way b (nat_lt b space) _ _ (inl refl))))))))

one_longer : (b : ℕ) (others : List ℕ) → is_plain b ≡ true
    → prefix_len is_plain (b ∷ others) ≡ suc (prefix_len is_plain others)
one_longer b others stands = cond-true _ _ _ stands ∙ omega arith

none_long : (b : ℕ) (others : List ℕ) → is_plain b ≡ false → prefix_len is_plain (b ∷ others) ≡ 0
none_long b others other = cond-false _ _ _ other

-- bytes that stand for themselves are written for themselves
pub plainly_written : (content line : List ℕ) → flat_map written content ≡ line → prefix_len is_plain line ≡ length line
    → content ≡ line
plainly_written [] line is plain = is
plainly_written (b ∷ content) line is plain =
    elim (written_cases b) [
      | inl itself ↦ (let others = flat_map written content in
          let front : b ∷ others ≡ line = sym (ap (λ l. l ++ others) itself) ∙ is in
          let whole : prefix_len is_plain (b ∷ others) ≡ length (b ∷ others) =
          subst (λ l. prefix_len is_plain l ≡ length l) (sym front) plain in
          elim (cases_Bool (is_plain b)) [
            | inl stands ↦ (let rest : prefix_len is_plain others ≡ length others =
                omega (arith, sym (one_longer b others stands) ∙ whole) in
                ap (λ l. b ∷ l) (plainly_written content others refl rest) ∙ front)
            | inr other ↦ absurd (omega (arith, sym (none_long b others other) ∙ whole))
          ])
      | inr escape ↦ (let front : backslash ∷ (escape.0 ++ flat_map written content) ≡ line =
          sym (ap (λ l. l ++ flat_map written content) escape.1) ∙ is in
          let none : 0 ≡ length (backslash ∷ (escape.0 ++ flat_map written content)) =
          subst (λ l. prefix_len is_plain l ≡ length l) (sym front) plain in
          absurd (omega (arith, none)))
    ]

-- a name's characters as they stand in the line, whose length was `mark` before the name
pub record WrittenName (text content line before after : List ℕ) (mark at end : ℕ) : Type 0 where
  pub inside : mark + 1 ≤ length line
  pub is : flat_map written content ≡ take (length line - (mark + 1)) (drop (mark + 1) line)
  pub taken : TakenString content (drop at text) (drop end text) before after

pub written_name : (text first line₁ line₂ line₃ last before : List ℕ) (from₁ from₂ from₃ at end : ℕ) → first ≡ line₁
    → line₁ ≡ before → from₁ ≡ at → from₂ < end → end ≤ length text
    → (anew : TakenAnew text at end (shown line₁ text from₁ at) (shown line₂ text from₂ end))
    → line₃ ≡ shown line₂ text from₂ (end - 1) → from₃ ≡ end - 1 → last ≡ line₃
    → WrittenName text anew.content last before (shown line₃ text from₃ end) (length first) at end
written_name text first line₁ line₂ line₃ last before from₁ from₂ from₃ at end is₁ was copied order within anew now
    place is₃ =
    let content = anew.content in
    let close = end - 1 in
    let next : close + 1 ≡ end = omega (arith, order) in
    let short : close < length text = omega (arith, order, within) in
    let before_close : from₂ ≤ close = omega (arith, order) in
    let closed : shown line₂ text from₂ (close + 1) ≡ shown line₂ text from₂ close ++ quotation_mark ∷ [] =
    shown_one line₂ text from₂ close quotation_mark before_close short anew.closed in
    let begun : shown line₁ text from₁ at ≡ line₁ = ap (λ n. shown line₁ text n at) copied
    ∙ (ap (λ l. line₁ ++ l) (between_none text at) ∙ append-nil line₁) in
    let ended : shown line₂ text from₂ end ≡ line₃ ++ quotation_mark ∷ [] =
    ap (λ n. shown line₂ text from₂ n) (sym next) ∙ (closed ∙ ap (λ l. l ++ quotation_mark ∷ []) (sym now)) in
    let all : line₃ ++ quotation_mark ∷ [] ≡ (line₁ ++ quotation_mark ∷ flat_map written content) ++ quotation_mark
    ∷ [] = sym ended ∙ (anew.taken.is_shown
    ∙ (ap (λ l. l ++ quoted content) begun
    ∙ sym (append_assoc line₁ (quotation_mark ∷ flat_map written content) (quotation_mark ∷ [])))) in
    let is : last ≡ first ++ quotation_mark ∷ flat_map written content = is₃
    ∙ (append_cancel_right line₃ (line₁ ++ quotation_mark ∷ flat_map written content) (quotation_mark ∷ []) all
    ∙ ap (λ l. l ++ quotation_mark ∷ flat_map written content) (sym is₁)) in
    let long : length last ≡ length first + length (quotation_mark ∷ flat_map written content) = ap length is
    ∙ length-append first (quotation_mark ∷ flat_map written content) in
    let left : drop (length first + 1) last ≡ flat_map written content = ap (drop (length first + 1)) is
    ∙ drop-append-add first (quotation_mark ∷ flat_map written content) 1 in
    let nothing : shown line₃ text from₃ close ≡ line₃ = ap (λ n. shown line₃ text n close) place
    ∙ (ap (λ l. line₃ ++ l) (between_none text close) ∙ append-nil line₃) in
    let finished : shown line₃ text from₃ end ≡ line₃ ++ quotation_mark ∷ [] =
    ap (λ n. shown line₃ text from₃ n) (sym next)
    ∙ (shown_one line₃ text from₃ close quotation_mark (omega (arith, place)) short anew.closed
    ∙ ap (λ l. l ++ quotation_mark ∷ []) nothing) in
    record {
      inside = omega (arith, long);
      is = sym (rest_is last (length first + 1) ∙ left);
      taken = record {
        inner = anew.taken.inner;
        splits = anew.taken.splits;
        spells = anew.taken.spells;
        is_shown = finished ∙ (sym ended ∙ (anew.taken.is_shown ∙ ap (λ l. l ++ quoted content) (begun ∙ was)));
      };
    }

-- Lines that stand whole, in what is left of some bytes.
use Rattle.std.proofs.Common.{◌≡◌, ◌≤◌, ◌<◌, ◌+◌, ◌-◌, ◌++◌, ◌∷◌, [], ℕ, zero, suc, true, false, Bool, ◌&&◌, ◌||◌, refl, List, drop, length, slice_index, slice_range, Some, sym, subst, ap, ◌∙◌, arith, ⊎_elim}
use Rattle.std.proofs.lemmas.List.{get_or-drop, length-drop, take_rest}
use Rattle.std.proofs.lemmas.Bool.{and_parts, cases_lt, false≢true}
use Rattle.memchr.specs.Find.{IsLastByte}
use Rattle.city_json.specs.Bytes.{newline}
use Rattle.tile_stream.specs.Ahead.{Ahead}
use Rattle.tile_stream.specs.Stretches.{HasNoNewline, HoldsNewline}
use Rattle.tile_stream.specs.Tile.{is_blank, is_newline}
use Rattle.tile_stream.specs.Whole.{EndsTexts, HoldsLine, IsEnded, is_blank_or_newline}
use Rattle.tile_stream.proofs.Coming.{is_code}

-- what stands after some first bytes
pub ended_after : (bytes : List ℕ) (count at : ℕ) → IsEnded bytes (count + at) → IsEnded (drop count bytes) at
ended_after bytes count at here =
    let place : count + (here.end - count) ≡ here.end = omega (arith, here.later) in
    record {
      full = ap (λ b. is_blank_or_newline b) (get_or-drop count bytes at 0) ∙ here.full;
      end = here.end - count;
      later = omega (arith, here.later);
      within = omega (arith, here.later, here.within, length-drop count bytes);
      ends = get_or-drop count bytes (here.end - count) 0 ∙ ap (λ i. slice_index bytes i) place ∙ here.ends;
    }

-- and the other way round
pub before : (bytes : List ℕ) (count at : ℕ) → IsEnded (drop count bytes) at → IsEnded bytes (count + at)
before bytes count at here = record {
  full = ap (λ b. is_blank_or_newline b) (sym (get_or-drop count bytes at 0)) ∙ here.full;
  end = count + here.end;
  later = omega (arith, here.later);
  within = omega (arith, here.within, length-drop count bytes);
  ends = sym (get_or-drop count bytes here.end 0) ∙ here.ends;
}

-- the place after the last is told from where the first bytes end
pub ends_later : (bytes : List ℕ) (end count : ℕ) → EndsTexts bytes end → EndsTexts (drop count bytes) (end - count)
ends_later bytes end count ends = record {
  is = λ here. ended_after bytes count (end - count - 1)
      (subst (λ i. IsEnded bytes i) (omega (arith, here)) (ends.is (omega (arith, here))));
  last = λ at here. omega (arith, ends.last (count + at) (before bytes count at here));
}

-- where no newline stands, no line does
pub none_ends : (bytes : List ℕ) → HasNoNewline bytes → EndsTexts bytes 0
none_ends bytes none = record {
  is = λ here. absurd (omega (arith, here));
  last = λ at here. absurd (false≢true (sym (none here.end 0 here.within) ∙ ap is_newline here.ends));
}

-- the last byte of a line that is not blank stands before the last newline, and only white ones between them
pub ends_before : (bytes : List ℕ) (seen last end : ℕ)
    → IsLastByte is_newline (slice_range bytes seen (length bytes)) (Some last)
    → end ≤ seen + last → (0 < end → is_blank_or_newline (slice_index bytes (end - 1)) ≡ false)
    → ((i : ℕ) → end ≤ i → i < seen + last → is_blank_or_newline (slice_index bytes i) ≡ true) → EndsTexts bytes end
ends_before bytes seen last end stands order full white =
    let found : IsLastByte is_newline (drop seen bytes) (Some last) = rw (← take_rest bytes seen) stands in record {
      is = λ here. record {
        full = full here;
        end = seen + last;
        later = omega (arith, here, order);
        within = omega (arith, found.0.high, length-drop seen bytes);
        ends = is_code (slice_index bytes (seen + last)) (ap is_newline (sym (get_or-drop seen bytes last 0)) ∙ found.1);
      };
      last = λ at here. ⊎_elim
          (λ (early : at < end). early)
          (λ (late : end ≤ at). absurd (⊎_elim
          (λ (low : at < seen + last). false≢true (sym here.full ∙ white at late low))
          (λ (high : seen + last ≤ at).
          let place : seen + (here.end - seen) ≡ here.end = omega (arith, high, here.later) in
          found.0.after (here.end - seen) (omega (arith, high, here.later))
          (omega (arith, high, here.later, here.within, length-drop seen bytes))
          (ap is_newline (get_or-drop seen bytes (here.end - seen) 0 ∙ ap (λ i. slice_index bytes i) place ∙ here.ends)))
          (cases_lt at (seen + last))))
          (cases_lt at end);
    }

one_more : (n : ℕ) → suc n ≡ 1 + n
one_more n = omega (arith)

-- what stands after the first byte
next : (b : ℕ) (bytes : List ℕ) (n : ℕ) → IsEnded (b ∷ bytes) (suc n) → IsEnded bytes n
next b bytes n here = ended_after (b ∷ bytes) 1 n (subst (λ i. IsEnded (b ∷ bytes) i) (one_more n) here)

white : (ends blank others : Bool) → (blank && others) ≡ true → (ends || (blank && true)) ≡ true
white true blank others is = refl
white false true others is = refl
white false false others is = is

-- A blank line in front is none that stands whole.
pub past_blank : (line after : List ℕ) → is_blank line ≡ true → HoldsLine (line ++ newline ∷ after) → HoldsLine after
past_blank [] after blank (zero, here) = absurd (false≢true (sym here.full))
past_blank [] after blank (suc n, here) = (n, next newline after n here)
past_blank (b ∷ line) after blank (zero, here) =
    absurd (false≢true (sym here.full ∙ white (is_newline b) _ (is_blank line) blank))
past_blank (b ∷ line) after blank (suc n, here) =
    past_blank line after (and_parts _ (is_blank line) blank).1 (n, next b (line ++ newline ∷ after) n here)

-- where none was found, none was held at first, if the same was held then
pub none_now : {R : Type 0} (now first : Ahead R) → HasNoNewline now.held → now ≡ first → HoldsNewline first.held → ⊥
none_now now first none same (end, below, is) =
    false≢true (sym (subst (λ (ahead : Ahead _). HasNoNewline ahead.held) same none end 0 below) ∙ ap is_newline is)

pub ends_too : (held : List ℕ) → HoldsLine held → HoldsNewline held
ends_too held (at, here) = (here.end, here.within, here.ends)

-- where the first stretch was a blank line, the line that is not is still held
pub still_holds : (before line after : List ℕ) → HoldsLine before → is_blank line ≡ true
    → before ≡ line ++ newline ∷ after → HoldsLine after
still_holds before line after holds blank split =
    past_blank line after blank (subst (λ held. HoldsLine held) split holds)

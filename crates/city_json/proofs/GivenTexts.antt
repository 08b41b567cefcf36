-- A text that is its own compact text, and triples in what is written.
use Rattle.std.proofs.Common.{◌≡◌, ◌∙◌, ◌++◌, ◌+◌, ◌-◌, ◌≤◌, ℕ, Bool, true, false, List, [], ◌∷◌, length, length-drop, refl, take, drop, ap, sym, subst, arith, slice_range}
use Rattle.std.proofs.lemmas.List.{drop-append-le, length-append, take-append-le, take_all}
use Rattle.std.proofs.Math.Seq.{drop-append_seam}
use Rattle.city_json.proofs.Places.{shown_more}
use Rattle.city_json.specs.Compacting.{shown}
use Rattle.city_json.specs.Triples.{HasTriples, IsTriplesText}
use Rattle.city_json.specs.declared.compacting.places.Span.{Span}

pub none_in : (given line : List ℕ) → given ≡ line → length given ≡ 0 → line ≡ []
none_in given [] same none = refl
none_in given (b ∷ line) same none = absurd (omega (arith, ap length same))

-- nothing was written, and all is still to be copied
pub nothing_written : (line text : List ℕ) (from end : ℕ) → line ≡ [] → from ≡ 0 → take end text ≡ shown line text from end
nothing_written line text from end none start =
    let count : end ≡ end - 0 = omega arith in
    ap (λ n. take n text) count
    ∙ sym (ap (λ l. l ++ slice_range text from end) none ∙ ap (λ n. slice_range text n end) start)

-- ---- triples in what is written
-- what stands in a text stands in a longer one
pub triples_more : (text more longer : List ℕ) (span : Span) → longer ≡ text ++ more → HasTriples text span
    → HasTriples longer span
triples_more text more longer span is has = λ some.
    let (within, t) = has some in
    let from = span.from in
    let count = span.end - from in
    let front : slice_range longer from span.end ≡ slice_range text from span.end =
    ap (λ l. take count (drop from l)) is ∙ ap (take count) (drop-append-le from text more (omega (arith, some, within)))
    ∙ take-append-le count (drop from text) more (omega (arith, length-drop from text, within)) in
    let long : length longer ≡ length text + length more = ap length is ∙ length-append text more in (
      omega (arith, long, within),
      record { items = t.items; triples = t.triples; written = front ∙ t.written },
    )

-- triples that are copied as they stand
pub triples_noted : (line text : List ℕ) (from at end : ℕ) (span : Span) → from ≤ at → at ≤ end
    → span.from ≡ length (shown line text from at) → span.end ≡ length (shown line text from end)
    → IsTriplesText text at end → HasTriples (shown line text from end) span
triples_noted line text from at end span order onward begins ends t = λ some.
    let before = shown line text from at in
    let all = shown line text from end in
    let value = slice_range text at end in
    let is : all ≡ before ++ value = shown_more line text from at end order onward in
    let long : length all ≡ length before + length value = ap length is ∙ length-append before value in
    let count : span.end - span.from ≡ length value = omega (arith, begins, ends, long) in
    let here : slice_range all span.from span.end ≡ value =
    ap (λ n. take n (drop span.from all)) count
    ∙ ap (take (length value)) (ap (λ n. drop n all) begins ∙ ap (drop (length before)) is ∙ drop-append_seam before value)
    ∙ take_all (length value) value (omega arith) in (
      omega (arith, ends),
      record { items = t.items; triples = t.triples; written = here ∙ t.written },
    )

-- what is noted after a member: its value, or what was noted before
pub triples_after : (are : Bool) (before after : List ℕ) (old new : Span)
    → (are ≡ true → HasTriples after new) → (are ≡ false → new ≡ old)
    → (more : List ℕ) → after ≡ before ++ more → HasTriples before old → HasTriples after new
triples_after true before after old new some none more is has = some refl
triples_after false before after old new some none more is has =
    subst (HasTriples after) (sym (none refl)) (triples_more before more after old is has)

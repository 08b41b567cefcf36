-- Marks between the parts of an object, with white space around them or none.
use Rattle.std.proofs.Common.{◌≡◌, ◌++◌, ◌∙◌, ◌≤◌, ◌<◌, ◌+◌, ℕ, false, List, [], ◌∷◌, length, drop, get_or, refl, ap, sym, subst, arith}
use Rattle.std.proofs.lemmas.Bool.Decides.{nat_tests}
use Rattle.city_json.specs.Bytes.{close_brace}
use Rattle.city_json.specs.Compacting.{shown}
use Rattle.city_json.specs.Marks.{IsBareMark, TakenBrace, TakenMark}
use Rattle.city_json.proofs.PassItems.{white_once}
use Rattle.city_json.specs.Reading.{after_white, is_white}
use Rattle.city_json.proofs.Places.{at_mark, drop_one, shown_one}
use Rattle.city_json.proofs.Scanning.{after_white-clear}

no_white : (b : ℕ) → 32 < b → is_white b ≡ false
no_white b above = grind (arith, nat_tests)

-- no white space stands before a byte above the blank
clear_at : (text : List ℕ) (at b : ℕ) → at < length text → get_or text at 0 ≡ b → 32 < b
    → drop at text ≡ after_white (drop at text)
clear_at text at b within is above =
    subst (λ bytes. bytes ≡ after_white bytes) (sym (drop_one text at b within is))
    (sym (after_white-clear (b ∷ drop (at + 1) text) (no_white b above)))

-- a mark and what comes after it, with no white space between or with some that was left out
pub mark_taken : (text rest after line : List ℕ) (from at mark : ℕ) → from ≤ at → 32 < mark
    → at < length text → get_or text at 0 ≡ mark → rest ≡ after_white (drop (at + 1) text)
    → after ≡ shown line text from (at + 1) → TakenMark mark (drop at text) rest (shown line text from at) after
mark_taken text rest after line from at mark copied above inside is starts shows = record {
  next = drop (at + 1) text;
  is_next = at_mark text (drop at text) at mark (clear_at text at mark inside is above) inside is;
  starts = starts;
  is_shown = shows ∙ shown_one line text from at mark copied inside is;
}

pub bare_mark : (line text : List ℕ) (from at mark : ℕ) → from ≤ at → 32 < mark → IsBareMark mark text at
    → TakenMark mark (drop at text) (drop (at + 1) text) (shown line text from at) (shown line text from (at + 1))
bare_mark line text from at mark copied above bare =
    let inside : at < length text = omega (arith, bare.within) in
    mark_taken text (drop (at + 1) text) (shown line text from (at + 1)) line from at mark copied above inside bare.is
    (clear_at text (at + 1) (get_or text (at + 1) 0) bare.within refl bare.next) refl

pub bare_brace : (line text : List ℕ) (from at : ℕ) → from ≤ at → at < length text → get_or text at 0 ≡ close_brace
    → TakenBrace (drop at text) (drop (at + 1) text) (shown line text from at) (shown line text from (at + 1))
bare_brace line text from at copied inside is = record {
  is_next = at_mark text (drop at text) at close_brace (clear_at text at close_brace inside is (omega arith)) inside is;
  is_shown = shown_one line text from at close_brace copied inside is;
}

-- white space before the mark
pub after_skip : (mark : ℕ) (b place rest before at_place after : List ℕ) → place ≡ after_white b → at_place ≡ before
    → TakenMark mark place rest at_place after → TakenMark mark b rest before after
after_skip mark b place rest before at_place after skipped is taken = record {
  next = taken.next;
  is_next = sym (ap after_white skipped ∙ white_once b) ∙ taken.is_next;
  starts = taken.starts;
  is_shown = taken.is_shown ∙ ap (λ l. l ++ mark ∷ []) is;
}

-- Takes, by the notes left.
use Rattle.std.proofs.Common.{◌≡◌, ℕ, ◌<◌, List, [], ◌∷◌, length, drop, Some, sym, ◌∙◌, ap, subst, refl, arith}
use Rattle.std.specs.Prelude.{slice_get}
use Rattle.std.proofs.lemmas.List.{get_or-set_same}
use Rattle.tile_handoff.specs.declared.note.Note.{Note}
use Rattle.tile_handoff.specs.declared.note.Note.TheVariants.{Line as LineNote, End as EndNote}
use Rattle.tile_handoff.specs.declared.event.Event.TheVariants.{Take}
use Rattle.tile_handoff.specs.declared.outcome.Took.{Took}
use Rattle.tile_handoff.specs.declared.outcome.Took.TheVariants.{Line, End, Empty, Drained}
use Rattle.tile_handoff.specs.Takes.{Takes, took_of, reply_of}
use Rattle.tile_handoff.specs.Row.{RowState, left_of, without_first}
use Rattle.tile_handoff.specs.Reflects.{Answers, WouldChange}
use Rattle.tile_handoff.proofs.Reflecting.{take_drained_answer, take_empty_answer, take_line_answer, take_end_answer, take_memory_answer}

-- a take that gives what is left answers as counting says
pub takes_answer :
    (old new : RowState) (t : ℕ) (took : Took) → t < length old.left → Takes old t took new
    → Answers old (Take t) (reply_of took) new
takes_answer old new t (Line line) within takes = take_line_answer old t line (left_of new t) new within takes.0 takes.1
takes_answer old new t (End end) within takes = take_end_answer old t end (left_of new t) new within takes.0 takes.1
takes_answer old new t Empty within takes =
    subst (Answers old (Take t) _) (sym takes.2) (take_empty_answer old t takes.0 takes.1)
takes_answer old new t Drained within takes =
    subst (Answers old (Take t) _) (sym takes.2) (take_drained_answer old t takes.0 takes.1)

-- where a note is left, a take would change the row
pub some_left_answer : (row : RowState) (t : ℕ) → 0 < length (left_of row t) → WouldChange row (Take t)
some_left_answer row t some = by_notes (left_of row t) refl some
  where
    by_notes : (notes : List Note) → left_of row t ≡ notes → 0 < length notes → WouldChange row (Take t)
    by_notes [] is some = absurd (omega arith)
    by_notes (note ∷ rest) is some = take_memory_answer row t note rest is

first_is : (notes : List Note) (note : Note) → slice_get notes 0 ≡ Some note → notes ≡ note ∷ drop 1 notes
first_is [] note e = cc
first_is (first ∷ rest) note e = cc

-- the first note left is what a take gives
pub fetch_takes :
    (row new : RowState) (t : ℕ) (note : Note) (took : Took) → t < length row.left
    → slice_get (left_of row t) 0 ≡ Some note → took ≡ took_of note → new ≡ without_first row t
    → Takes row t took new
fetch_takes row new t note took within first given is =
    subst (λ x. Takes row t x new) (sym given)
    (by_note note (first_is (left_of row t) note first
    ∙ ap (λ x. note ∷ x) (sym (ap (λ x. left_of x t) is
    ∙ get_or-set_same row.left t (drop 1 (left_of row t)) [] within))))
  where
    by_note : (note : Note) → left_of row t ≡ note ∷ left_of new t → Takes row t (took_of note) new
    by_note (LineNote line) left = (left, is)
    by_note (EndNote end) left = (left, is)

pub none_left : (notes : List Note) → length notes ≡ 0 → notes ≡ []
none_left [] e = refl
none_left (note ∷ notes) e = absurd (omega arith)

-- The lines among the notes that were taken of a tile, and its end note.
use Rattle.std.proofs.Common.{◌≡◌, ◌+◌, ◌++◌, ℕ, List, [], ◌∷◌, Option, Some, None, is_some, length, map, refl, sym, ap, subst, ◌∙◌, true, arith, append_assoc, append-nil, length-append}
use Rattle.tile_handoff.specs.declared.note.End.{End}
use Rattle.tile_handoff.specs.declared.note.Note.{Note}
use Rattle.tile_handoff.specs.declared.note.Note.TheVariants.{Line as LineNote, End as EndNote}
use Rattle.tile_handoff.specs.Notes.{has_end}
use Rattle.tile_merge.specs.Giving.{Giving}
use Rattle.tile_merge.specs.EndNotes.{end_of, ended_so, notes_of}
use Rattle.tile_merge.specs.declared.merging.ends.TileEnd.{TileEnd}
use Rattle.tile_merge.specs.Feeds.{Course, course_of}
use Rattle.tile_merge.specs.Threads.{Fed, IsFed, HasGiven, TellsEnd, lines_in}

-- a line more, and the end note
pub lines_more : (notes : List Note) (line : List ℕ)
    → lines_in (notes ++ LineNote line ∷ []) ≡ lines_in notes ++ line ∷ []
lines_more [] line = refl
lines_more (LineNote first ∷ notes) line = ap (λ ls. first ∷ ls) (lines_more notes line)
lines_more (EndNote end ∷ notes) line = lines_more notes line

pub lines_ended : (notes : List Note) (end : End) → lines_in (notes ++ EndNote end ∷ []) ≡ lines_in notes
lines_ended [] end = refl
lines_ended (LineNote first ∷ notes) end = ap (λ ls. first ∷ ls) (lines_ended notes end)
lines_ended (EndNote first ∷ notes) end = lines_ended notes end

-- the lines of texts
abbrev line_note : List ℕ → Note
line_note text = LineNote text

lines_of_notes : (texts : List (List ℕ)) → lines_in (map line_note texts) ≡ texts
lines_of_notes [] = refl
lines_of_notes (text ∷ texts) = ap (λ ls. text ∷ ls) (lines_of_notes texts)

-- an end note that stands last is among them
pub has_its_end : (front : List Note) (end : End) → has_end (front ++ EndNote end ∷ []) ≡ true
has_its_end [] end = refl
has_its_end (LineNote line ∷ front) end = has_its_end front end
has_its_end (EndNote first ∷ front) end = refl

-- the end note of texts is the one that stands last
same_end : (texts : List (List ℕ)) (end last : End) (front : List Note)
    → map line_note texts ++ EndNote end ∷ [] ≡ front ++ EndNote last ∷ [] → last ≡ end
same_end [] end last [] same = cc same
same_end [] end last (note ∷ []) same = absurd (cc same)
same_end [] end last (note ∷ other ∷ front) same = absurd (cc same)
same_end (text ∷ texts) end last [] same = absurd (cc same)
same_end (text ∷ texts) end last (note ∷ front) same = same_end texts end last front (cc same)

pub some_end : (last : Option TileEnd) → is_some last ≡ true → (end : TileEnd) × (last ≡ Some end)
some_end None is = absurd (cc is)
some_end (Some end) is = (end, refl)

-- what was taken of a tile, all that its thread put, is what the tile gave, or the first of it; the texts of its first
-- line were taken before
pub has_given : {R : Type 0} (gives : Giving R) (fed : Fed R) (first : List (List ℕ)) → fed.begun.count ≡ length first
    → (last : Option TileEnd) (cancels : ℕ)
    (Unasked : Type 0) (end : TileEnd) → last ≡ Some end → (before carried taken : List Note) → before ≡ []
    → IsFed gives fed Unasked before carried → taken ≡ carried → TellsEnd last taken → (cancels ≡ 0 → Unasked)
    → (course : Course) × HasGiven gives (record {
      begun = record { fed = fed; first = first };
      lines = first ++ lines_in taken;
      last = last;
      cancels = cancels;
    }) course
has_given gives fed first counts last cancels Unasked end is before carried taken empty put whole tells unasked =
    let told = subst (λ l. TellsEnd l taken) is tells in
    let are : taken ≡ notes_of put.texts put.end =
    whole ∙ put.put ∙ ap (λ ns. ns ++ notes_of put.texts put.end) empty in
    let notes = map line_note put.texts in
    let all = first ++ put.texts ++ put.others in
    let note_is : told.1 ≡ put.end = same_end put.texts put.end told.1 told.0 (sym are ∙ told.2) in (
      course_of all (ended_so (length all) put.outcome),
      record {
        texts = first ++ put.texts;
        others = put.others;
        are = refl;
        comes = (put.texts ++ put.others, append_assoc first put.texts put.others, put.comes);
        counted = refl;
        lines = ap (λ ls. first ++ ls) (ap lines_in are ∙ lines_ended notes put.end ∙ lines_of_notes put.texts);
        whole = λ none.
            let all_came = put.whole (unasked none) in
            let texts_are : put.texts ≡ put.texts ++ put.others = sym (append-nil put.texts)
            ∙ ap (λ others. put.texts ++ others) (sym all_came.0) in
            let count : fed.begun.count + length put.texts ≡ length all =
            omega (
              arith,
              counts,
              length-append first put.texts,
              ap length (append_assoc first put.texts put.others),
              length-append first (put.texts ++ put.others),
              ap length texts_are,
            ) in
            let is_end = note_is ∙ all_came.1 ∙ ap (λ n. end_of (ended_so n put.outcome)) count in
            (all_came.0, is ∙ ap Some (told.3 (ended_so (length all) put.outcome) is_end));
      },
    )

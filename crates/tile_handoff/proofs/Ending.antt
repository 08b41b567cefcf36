-- The end note of a list of notes.
use Rattle.std.proofs.Common.{◌≡◌, true, false, List, [], ◌∷◌, ◌++◌, length, refl}
use Rattle.tile_handoff.specs.Notes.{has_end, are_ended}
use Rattle.tile_handoff.specs.declared.note.End.{End}
use Rattle.tile_handoff.specs.declared.note.Note.{Note}
use Rattle.tile_handoff.specs.declared.note.Note.TheVariants.{Line as LineNote, End as EndNote}

-- lines, and after them an end note
pub are_ended-push : (notes : List Note) (end : End) → has_end notes ≡ false
    → are_ended (notes ++ EndNote end ∷ []) ≡ true
unfolding are_ended
are_ended-push [] end e = refl
are_ended-push (LineNote line ∷ []) end e = refl
are_ended-push (LineNote line ∷ next ∷ notes) end e = are_ended-push (next ∷ notes) end e
are_ended-push (EndNote other ∷ notes) end e = absurd cc

-- after the end note there is none
pub nothing_after_end : (front left : List Note) → are_ended (front ++ left) ≡ true → has_end front ≡ true
    → length left ≡ 0
unfolding are_ended
nothing_after_end [] left ended has = absurd cc
nothing_after_end (LineNote line ∷ []) left ended has = absurd cc
nothing_after_end (LineNote line ∷ next ∷ front) left ended has = nothing_after_end (next ∷ front) left ended has
nothing_after_end (EndNote end ∷ []) [] ended has = refl
nothing_after_end (EndNote end ∷ []) (note ∷ left) ended has = absurd cc
nothing_after_end (EndNote end ∷ next ∷ front) left ended has = absurd cc

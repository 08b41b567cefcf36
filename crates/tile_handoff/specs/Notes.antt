-- The notes of a tile.
use Rattle.std.specs.Prelude.{Bool, true, false, not, ◌&&◌, List, [], ◌∷◌}
use Rattle.std.specs.List.{list_any}
use Rattle.tile_handoff.specs.declared.note.Note.{Note}
use Rattle.tile_handoff.specs.declared.note.Note.TheVariants.{Line, End}

-- whether a note is an end note
abbrev pub is_end : Note → Bool
is_end (Line line) = false
is_end (End end) = true

-- whether there is an end note among some notes
abbrev pub has_end : List Note → Bool
has_end notes = list_any is_end notes

-- whether the last of some notes is an end note, and no other is
unfoldable pub are_ended : List Note → Bool
are_ended [] = false
are_ended (note ∷ []) = is_end note
are_ended (note ∷ next ∷ notes) = not (is_end note) && are_ended (next ∷ notes)

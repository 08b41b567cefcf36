-- The notes by which a tile is handed on: its texts, and then the end note.
use Rattle.std.specs.Prelude.{◌≡◌, ◌++◌, ℕ, List, [], ◌∷◌, Some, None, map}
use Rattle.byte_streams.specs.Faults.{number_of}
use Rattle.tile_handoff.specs.declared.note.End.{End}
use Rattle.tile_handoff.specs.declared.note.Note.{Note}
use Rattle.tile_handoff.specs.declared.note.Note.TheVariants.{Line as LineNote, End as EndNote}
use Rattle.tile_stream.specs.Texts.{Outcome}
use Rattle.tile_merge.specs.declared.merging.ends.TileEnd.{TileEnd}

-- how a tile ended that gave so many texts in all
abbrev pub ended_so : ℕ → Outcome → TileEnd
ended_so count outcome = record { count = count; stop = outcome }

abbrev pub end_with : ℕ → Outcome → End
end_with count None = record { count = count; line = 0; number = 0 }
end_with count (Some at) = record { count = count; line = at.line; number = number_of at.fault }

-- the end note: the count, and the line and the number of the fault, or 0 and 0
abbrev pub end_of : TileEnd → End
end_of ended = end_with ended.count ended.stop

-- a tile of which this is the end note ended so
abbrev pub IsToldBy : TileEnd → End → Type 0
IsToldBy ended note = (other : TileEnd) → note ≡ end_of other → ended ≡ other

abbrev pub outcomes_in : List TileEnd → List Outcome
outcomes_in ends = map (λ ended. ended.stop) ends

abbrev pub totals_in : List TileEnd → List ℕ
totals_in ends = map (λ ended. ended.count) ends

-- how tiles ended, in order, and for how many tiles there is room
pub record EndsState : Type 0 where
  pub room : ℕ
  pub ends : List TileEnd

-- the texts, and then this end note
abbrev pub notes_of : List (List ℕ) → End → List Note
notes_of texts end = map (λ text. LineNote text) texts ++ EndNote end ∷ []

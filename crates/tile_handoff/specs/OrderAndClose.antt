-- The law of order and close, of a history.
use Rattle.std.specs.Prelude.{ℕ, ◌≡◌, List, ◌∷◌, ◌++◌}
use Rattle.std.specs.List.{Contains}
use Rattle.tile_handoff.specs.History.{History, put, got}
use Rattle.tile_handoff.specs.declared.note.End.{End}
use Rattle.tile_handoff.specs.declared.note.Note.{Note}
use Rattle.tile_handoff.specs.declared.event.Event.{Event}
use Rattle.tile_handoff.specs.declared.event.Event.TheVariants.{Put, Take, Close}
use Rattle.tile_handoff.specs.declared.event.Reply.{Reply}
use Rattle.tile_handoff.specs.declared.event.Reply.TheVariants.{Accepted, Closed, End as EndReply}

-- some notes are the first ones of others
abbrev pub IsPrefix : List Note → List Note → Type 0
IsPrefix front notes = (rest : List Note) × (notes ≡ front ++ rest)

-- an event puts to tile t, or closes it
abbrev pub PutsTo : ℕ → Event → Type 0
PutsTo t (Put u line) = u ≡ t
PutsTo t (Take u) = ⊥
PutsTo t (Close u end) = u ≡ t

-- what was got of each tile is a prefix of what was put
abbrev pub InOrder : History → Type 0
InOrder h = (t : ℕ) → IsPrefix (got h t) (put h t)

-- where a take answered a tile's end note, all that was put was got
abbrev pub WholeAtEnd : History → Type 0
WholeAtEnd h = (t : ℕ) (end : End) → Contains h (Take t, EndReply end) → got h t ≡ put h t

-- after an accepted close of a tile, each put or close of it is answered Closed
abbrev pub NothingAfterClose : History → Type 0
NothingAfterClose h =
    (t : ℕ) (end : End) (before between after : History) (event : Event) (reply : Reply)
    → h ≡ before ++ (Close t end, Accepted) ∷ between ++ (event, reply) ∷ after
    → PutsTo t event
    → reply ≡ Closed

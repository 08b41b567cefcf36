-- Histories: the events of a row with their replies, and what was put and got in them. No queue stands in here.
use Rattle.std.specs.Prelude.{ℕ, ◌+◌, ◌≡◌, ◌==◌, if◌then◌else◌, List, [], ◌∷◌, ◌++◌, length, slice_get, Option, Some, None}
use Rattle.std.specs.List.{flat_map, zip}
use Rattle.tile_handoff.specs.Notes.{has_end}
use Rattle.tile_handoff.specs.declared.note.Note.{Note}
use Rattle.tile_handoff.specs.declared.note.Note.TheVariants.{Line as LineNote, End as EndNote}
use Rattle.tile_handoff.specs.declared.mark.Mark.{Mark}
use Rattle.tile_handoff.specs.declared.mark.Kind.TheVariants.{Put as PutKind, Take as TakeKind, Close as CloseKind}
use Rattle.tile_handoff.specs.declared.event.Event.{Event}
use Rattle.tile_handoff.specs.declared.event.Event.TheVariants.{Put, Take, Close}
use Rattle.tile_handoff.specs.declared.event.Reply.{Reply}
use Rattle.tile_handoff.specs.declared.event.Reply.TheVariants.{Accepted, Closed, Full, Line as LineReply, End as EndReply, Empty, Drained}

-- a list of events, each with its reply, the oldest first
abbrev pub History : Type 0
History = List (Event × Reply)

-- the history of events and their replies
abbrev pub history_of : List Event → List Reply → History
history_of events replies = zip events replies

-- the tile that an event concerns
abbrev pub event_tile : Event → ℕ
event_tile (Put t line) = t
event_tile (Take t) = t
event_tile (Close t end) = t

-- the note that an event with its reply put to tile t, as a list of one or none
abbrev pub put_by : ℕ → Event × Reply → List Note
put_by t (Put u line, Accepted) = if t == u then LineNote line ∷ [] else []
put_by t (Close u end, Accepted) = if t == u then EndNote end ∷ [] else []
put_by t other = []

-- the note that an event with its reply got of tile t, as a list of one or none
abbrev pub got_by : ℕ → Event × Reply → List Note
got_by t (Take u, LineReply line) = if t == u then LineNote line ∷ [] else []
got_by t (Take u, EndReply end) = if t == u then EndNote end ∷ [] else []
got_by t other = []

-- the notes of the accepted puts and closes of tile t, in order
abbrev pub put : History → ℕ → List Note
put h t = flat_map (put_by t) h

-- the notes that the takes of tile t answered, in order
abbrev pub got : History → ℕ → List Note
got h t = flat_map (got_by t) h

-- a put or close is refused after an end note, and where as many notes as the capacity were put and not yet got
abbrev pub put_reply : ℕ → List Note → List Note → Reply
put_reply capacity was_put was_got =
    if has_end was_put then Closed else (if length was_put == length was_got + capacity then Full else Accepted)

-- the reply that gives a note, or Empty where there is none
abbrev pub reply_with : Option Note → Reply
reply_with None = Empty
reply_with (Some (LineNote line)) = LineReply line
reply_with (Some (EndNote end)) = EndReply end

-- a take gives the first note that was put and not yet got, until the end note was got
abbrev pub take_reply : List Note → List Note → Reply
take_reply was_put was_got = if has_end was_got then Drained else reply_with (slice_get was_put (length was_got))

-- the reply to an event after a history, by counting alone
abbrev pub reply_to : ℕ → History → Event → Reply
reply_to capacity h (Put t line) = put_reply capacity (put h t) (got h t)
reply_to capacity h (Close t end) = put_reply capacity (put h t) (got h t)
reply_to capacity h (Take t) = take_reply (put h t) (got h t)

-- wherever an event stands in the history, its reply is the one by counting over what stands before it
abbrev pub IsLegal : ℕ → History → Type 0
IsLegal capacity h =
    (before after : History) (event : Event) (reply : Reply)
    → h ≡ before ++ (event, reply) ∷ after
    → reply ≡ reply_to capacity before event

-- the mark that an event with its reply leaves after a history, as a list of one or none: a note's number is its
-- place among those put
abbrev pub mark_after : History → Event × Reply → List Mark
mark_after h (Put t line, Accepted) = record { tile = t; kind = PutKind; number = length (put h t) } ∷ []
mark_after h (Close t end, Accepted) = record { tile = t; kind = CloseKind; number = length (put h t) } ∷ []
mark_after h (Take t, LineReply line) = record { tile = t; kind = TakeKind; number = length (got h t) } ∷ []
mark_after h (Take t, EndReply end) = record { tile = t; kind = TakeKind; number = length (got h t) } ∷ []
mark_after h other = []

-- the marks of the events of `later`, which come after a history
abbrev pub marks_from : History → History → List Mark
marks_from before [] = []
marks_from before (entry ∷ later) = mark_after before entry ++ marks_from (before ++ entry ∷ []) later

-- the marks of a history: its accepted events, with their places
abbrev pub marks_of : History → List Mark
marks_of h = marks_from [] h

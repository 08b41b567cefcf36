-- What a take of a row gives.
use Rattle.std.specs.Prelude.{ℕ, ◌≡◌, true, false, [], ◌∷◌}
use Rattle.tile_handoff.specs.Row.{RowState, left_of, closed_in, without_first}
use Rattle.tile_handoff.specs.declared.note.Note.{Note}
use Rattle.tile_handoff.specs.declared.note.Note.TheVariants.{Line as LineNote, End as EndNote}
use Rattle.tile_handoff.specs.declared.event.Reply.{Reply}
use Rattle.tile_handoff.specs.declared.event.Reply.TheVariants.{Line as LineReply, End as EndReply, Empty as EmptyReply, Drained as DrainedReply}
use Rattle.tile_handoff.specs.declared.outcome.Took.{Took}
use Rattle.tile_handoff.specs.declared.outcome.Took.TheVariants.{Line, End, Empty, Drained}

-- what a take gives of a note
abbrev pub took_of : Note → Took
took_of (LineNote line) = Line line
took_of (EndNote end) = End end

-- what a take of tile t gives is the first note left; where none is left, the marks say whether the tile was closed
abbrev pub Takes : RowState → ℕ → Took → RowState → Type 0
Takes old t (Line line) new = (left_of old t ≡ LineNote line ∷ left_of new t) × (new ≡ without_first old t)
Takes old t (End end) new = (left_of old t ≡ EndNote end ∷ left_of new t) × (new ≡ without_first old t)
Takes old t Empty new = (left_of old t ≡ []) × (closed_in old.marks t ≡ false) × (new ≡ old)
Takes old t Drained new = (left_of old t ≡ []) × (closed_in old.marks t ≡ true) × (new ≡ old)

-- the reply that a take's answer is
abbrev pub reply_of : Took → Reply
reply_of (Line line) = LineReply line
reply_of (End end) = EndReply end
reply_of Empty = EmptyReply
reply_of Drained = DrainedReply

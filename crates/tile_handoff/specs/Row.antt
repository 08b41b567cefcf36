-- What a contract sees of a row, and what an accepted call makes of it.
use Rattle.std.specs.Prelude.{ℕ, ◌+◌, ◌≡◌, ◌<◌, ◌==◌, Bool, true, false, ◌&&◌, List, [], ◌∷◌, ◌++◌, length, drop, replicate, slice_index_or, slice_set}
use Rattle.std.specs.List.{list_any, count_by}
use Rattle.tile_handoff.specs.declared.note.Note.{Note}
use Rattle.tile_handoff.specs.declared.note.Note.TheVariants.{Line, End}
use Rattle.tile_handoff.specs.declared.mark.Mark.{Mark}
use Rattle.tile_handoff.specs.declared.mark.Kind.{Kind}
use Rattle.tile_handoff.specs.declared.mark.Kind.TheVariants.{Put, Take, Close}

-- how many notes a tile's queue may hold, the marks, and the notes left of each tile
pub record RowState : Type 0 where
  pub capacity : ℕ
  pub marks : List Mark
  pub left : List (List Note)

-- a row of which nothing was asked
abbrev pub fresh : ℕ → ℕ → RowState
fresh tiles capacity = record { capacity = capacity; marks = []; left = replicate tiles [] }

-- the notes left of tile t
abbrev pub left_of : RowState → ℕ → List Note
left_of row t = slice_index_or row.left t []

-- whether an event was a close
abbrev pub is_close : Kind → Bool
is_close Put = false
is_close Take = false
is_close Close = true

-- whether an event was a take
abbrev pub is_take : Kind → Bool
is_take Put = false
is_take Take = true
is_take Close = false

-- whether the marks have a close of tile t
abbrev pub closed_in : List Mark → ℕ → Bool
closed_in marks t = list_any (λ mark. is_close mark.kind && (t == mark.tile)) marks

-- how many takes of tile t the marks have
abbrev pub taken_in : List Mark → ℕ → ℕ
taken_in marks t = count_by (λ mark. is_take mark.kind && (t == mark.tile)) marks

-- a line is put, and an end note closes
abbrev pub kind_of : Note → Kind
kind_of (Line line) = Put
kind_of (End end) = Close

-- the row after tile t took a note in: the note's number is that of the notes taken and left before it
abbrev pub with_note : RowState → ℕ → Note → RowState
with_note row t note =
    record {
      capacity = row.capacity;
      marks = row.marks ++ record { tile = t; kind = kind_of note; number = taken_in row.marks t + length (left_of row t) } ∷ [];
      left = slice_set row.left t (left_of row t ++ note ∷ []);
    }

-- the row after tile t gave its first note
abbrev pub without_first : RowState → ℕ → RowState
without_first row t =
    record {
      capacity = row.capacity;
      marks = row.marks ++ record { tile = t; kind = Take; number = taken_in row.marks t } ∷ [];
      left = slice_set row.left t (drop 1 (left_of row t));
    }

-- tile t was closed
abbrev pub IsClosed : RowState → ℕ → Type 0
IsClosed row t = closed_in row.marks t ≡ true

-- tile t was not closed, and its queue is full
abbrev pub IsFull : RowState → ℕ → Type 0
IsFull row t = (closed_in row.marks t ≡ false) × (length (left_of row t) ≡ row.capacity)

-- tile t was not closed, and its queue has a place left
abbrev pub HasRoom : RowState → ℕ → Type 0
HasRoom row t = (closed_in row.marks t ≡ false) × (length (left_of row t) < row.capacity)

-- two rows have the same capacity and as many tiles
abbrev pub SameShape : RowState → RowState → Type 0
SameShape old new = (new.capacity ≡ old.capacity) × (length new.left ≡ length old.left)

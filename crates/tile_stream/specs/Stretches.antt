-- The stretches of what is to come, between newlines, and what one read and the completing of a stretch may answer.
use Rattle.std.specs.Prelude.{◌≡◌, ◌⊎◌, ◌<◌, ◌+◌, ℕ, Bool, false, List, ◌++◌, Some, None, length, slice_index, take, Result, Ok, Err}
use Rattle.std.specs.List.{All}
use Rattle.memchr.specs.Find.{IsFirstByte}
use Rattle.city_json.specs.Bytes.{newline}
use Rattle.byte_streams.specs.Source.{GivesFirst}
use Rattle.byte_streams.specs.declared.fault.Fault.{Fault}
use Rattle.byte_streams.specs.declared.fault.Fault.TheVariants.{LineTooLong, TileTooLong, Read, Memory}
use Rattle.tile_stream.specs.declared.limits.Limits.{Limits}
use Rattle.tile_stream.specs.Ahead.{Ahead, MayCome}
use Rattle.tile_stream.specs.Unread.{failed_reads_after}
use Rattle.tile_stream.specs.Tile.{is_newline, fault_between, lines_from, only_fault}

-- a line or a tile is past its limit
abbrev pub IsLimitFault : Fault → Type 0
IsLimitFault LineTooLong = Unit {0}
IsLimitFault TileTooLong = Unit {0}
IsLimitFault other = ⊥

-- a read failed, or memory ran out before it
abbrev pub IsFillFault : Fault → Type 0
IsFillFault Read = Unit {0}
IsFillFault Memory = Unit {0}
IsFillFault other = ⊥

abbrev pub failed_reads_after_call : {X : Type 0} → Result X Fault → ℕ → ℕ
failed_reads_after_call (Ok x) count = count
failed_reads_after_call (Err fault) count = failed_reads_after fault count

abbrev pub HasNoNewline : List ℕ → Type 0
HasNoNewline line = All (λ b. is_newline b ≡ false) line

-- A line that begins with these bytes need not be refused.
abbrev pub IsFineFront : Limits → ℕ → List ℕ → Type 0
IsFineFront limits start line = fault_between limits (start + length line) false start (start + length line) ≡ None

-- This line is not refused where a newline ends it.
abbrev pub IsFineLine : Limits → ℕ → List ℕ → Type 0
IsFineLine limits start line = fault_between limits (start + length line + 1) false start (start + length line) ≡ None

-- Whatever its number, the line that begins at `start` is refused in some tile that may be to come.
abbrev pub IsRefusedLine : Fault → Limits → ℕ → (List ℕ → Bool → Type 0) → Type 0
IsRefusedLine fault limits start before =
    (bytes : List ℕ) × (fails : Bool) × before bytes fails × ((number : ℕ) → lines_from limits number start bytes fails ≡ only_fault number fault)

-- Out of memory, something was still to come. Each other fault is that of the line.
abbrev pub IsRefusal : Fault → Limits → ℕ → (List ℕ → Bool → Type 0) → Type 0
IsRefusal Memory limits start before = (bytes : List ℕ) × (fails : Bool) × before bytes fails
IsRefusal LineTooLong limits start before = IsRefusedLine LineTooLong limits start before
IsRefusal TileTooLong limits start before = IsRefusedLine TileTooLong limits start before
IsRefusal Read limits start before = IsRefusedLine Read limits start before
IsRefusal other limits start before = ⊥

-- a newline stands among these bytes
abbrev pub HoldsNewline : List ℕ → Type 0
HoldsNewline bytes = (end : ℕ) × (end < length bytes) × (slice_index bytes end ≡ newline)

-- Whatever may be to come now may have been to come before.
abbrev pub BytesComeBack : (List ℕ → Bool → Type 0) → (List ℕ → Bool → Type 0) → Type 0
BytesComeBack before after = (bytes : List ℕ) (fails : Bool) → after bytes fails → before bytes fails

-- So many bytes were read, and stand after those that were held.
pub record ReadsMore {R : Type 0} (gives : R → List ℕ → Bool → Type 0) (before after : Ahead R) (count : ℕ) : Type 0 where
  pub more : List ℕ
  pub counted : count ≡ length more
  pub held : after.held ≡ before.held ++ more
  pub given : GivesFirst (gives before.reader) (gives after.reader) more

-- A newline that was read ends the stretch of this length, which is within the limits.
pub record IsEndedStretch (limits : Limits) (start : ℕ) (held : List ℕ) (count : ℕ) : Type 0 where
  pub ends : IsFirstByte is_newline held (Some count)
  pub fine : IsFineLine limits start (take count held)

-- The stretch of this length is all that is held. No newline ends it, and it is within the limits.
pub record IsLastStretch (limits : Limits) (start : ℕ) (held : List ℕ) (count : ℕ) : Type 0 where
  pub all : count ≡ length held
  pub none : HasNoNewline held
  pub fine : IsFineFront limits start held

abbrev pub IsStretch : Limits → ℕ → List ℕ → ℕ → Type 0
IsStretch limits start held count = IsEndedStretch limits start held count ⊎ IsLastStretch limits start held count

-- The next stretch stands whole in front, and has this length. Where no newline ends it, nothing was to come after it.
pub record IsNextStretch {R : Type 0} (gives : R → List ℕ → Bool → Type 0) (limits : Limits) (start : ℕ) (before after : Ahead R) (count : ℕ) : Type 0 where
  pub stretch : IsStretch limits start after.held count
  pub back : BytesComeBack (MayCome gives before) (MayCome gives after)
  pub last : count ≡ length after.held → MayCome gives before after.held false

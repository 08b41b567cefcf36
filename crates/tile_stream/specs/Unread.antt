-- A tile that is being read: which lines it may still leave, and what the next of them does to that.
use Rattle.std.specs.Prelude.{◌≡◌, ◌≤◌, ◌+◌, ◌++◌, ◌-◌, ◌⊎◌, ℕ, Bool, true, false, List, [], ◌∷◌, Option, Some, None, is_some, Result, Ok, Err, if◌then◌else◌}
use Rattle.std.specs.List.{All}
use Rattle.byte_streams.specs.Failures.{one_more}
use Rattle.byte_streams.specs.declared.fault.Fault.{Fault}
use Rattle.byte_streams.specs.declared.fault.Fault.TheVariants.{LineTooLong, TileTooLong, Read, Memory}
use Rattle.tile_stream.specs.declared.limits.Limits.{Limits}
use Rattle.byte_streams.specs.declared.places.LineFault.{LineFault}
use Rattle.tile_stream.specs.declared.lines.state.State.{State}
use Rattle.tile_stream.specs.declared.lines.state.State.TheVariants.{Open, Over, Refused}
use Rattle.tile_stream.specs.Ahead.{Ahead, MayCome}
use Rattle.tile_stream.specs.Tile.{Stretch, TileLines, stretch_of, is_newline, is_blank, tile_of, tile_lines, lines_from, line_before, nothing_left, only_fault}

-- What is ahead of the reader, the number of the next line, the byte at which it begins, and, once no
-- more is read, what is left.
pub record Unread (R : Type 0) : Type 0 where
  pub ahead : Ahead R
  pub limits : Limits
  pub number : ℕ
  pub start : ℕ
  pub ended : Option TileLines

-- what is left once no more is read
abbrev pub ended_by : State → Option TileLines
ended_by Open = None
ended_by (Over last) = Some (nothing_left last)
ended_by (Refused at) = Some (only_fault at.line at.fault)

-- the faults that a line may be refused for while the tile is read
abbrev pub IsLineFault : Fault → Type 0
IsLineFault LineTooLong = Unit {0}
IsLineFault TileTooLong = Unit {0}
IsLineFault Read = Unit {0}
IsLineFault Memory = Unit {0}
IsLineFault other = ⊥

-- While lines may be to come, each before the next took a byte at least; a refused line bears the next number or a higher
-- one, and a fault of lines.
abbrev pub IsKeptFrom : ℕ → ℕ → State → Type 0
IsKeptFrom number start Open = number ≤ start + 1
IsKeptFrom number start (Over last) = Unit {0}
IsKeptFrom number start (Refused at) = (number ≤ at.line) × IsLineFault at.fault

-- These lines and this fault may be left: what some bytes give that may be to come.
abbrev pub LeavesIf : {R : Type 0} → Option TileLines → (R → List ℕ → Bool → Type 0) → Unread R → TileLines → Type 0
LeavesIf (Some known) gives lines left = left ≡ known
LeavesIf None gives lines left =
    (bytes : List ℕ) × (fails : Bool) × MayCome gives lines.ahead bytes fails × (left ≡ lines_from lines.limits lines.number lines.start bytes fails)

abbrev pub Leaves : {R : Type 0} → (R → List ℕ → Bool → Type 0) → Unread R → TileLines → Type 0
Leaves gives lines left = LeavesIf lines.ended gives lines left

-- This is what some tile gives that the reader gives.
abbrev pub IsOfTile : (List ℕ → Bool → Type 0) → Limits → TileLines → Type 0
IsOfTile gives limits left = (bytes : List ℕ) × (fails : Bool) × gives bytes fails × (left ≡ tile_lines limits (tile_of bytes fails))

-- a stretch in front: a line where it is not blank
abbrev pub stretch_before : Stretch → TileLines → TileLines
stretch_before stretch left = if is_blank stretch.bytes then left else line_before stretch left

-- Whatever may be left now may, with this stretch in front, have been left before.
abbrev pub GivesStretch : (TileLines → Type 0) → (TileLines → Type 0) → ℕ → List ℕ → Type 0
GivesStretch before after number bytes = (start : ℕ) × ((left : TileLines) → after left → before (stretch_before (stretch_of number start bytes) left))

-- Whatever may be left now may, with this line in front, have been left before.
abbrev pub GivesLine : (TileLines → Type 0) → (TileLines → Type 0) → ℕ → List ℕ → Type 0
GivesLine before after number bytes = (start : ℕ) × ((left : TileLines) → after left → before (line_before (stretch_of number start bytes) left))

-- The first line, or where there is none the fault, bears this number or a higher one.
abbrev pub IsFaultFrom : ℕ → Option LineFault → Type 0
IsFaultFrom number None = Unit {0}
IsFaultFrom number (Some at) = number ≤ at.line

abbrev pub BeginsFrom : ℕ → List Stretch → Option LineFault → Type 0
BeginsFrom number [] fault = IsFaultFrom number fault
BeginsFrom number (line ∷ others) fault = number ≤ line.number

-- What is left once no more is read begins at this number or a higher one.
abbrev pub EndsFrom : ℕ → Option TileLines → Type 0
EndsFrom number None = Unit {0}
EndsFrom number (Some left) = BeginsFrom number left.lines left.fault

-- What comes next, a line, a fault or the end, bears this number or a higher one.
abbrev pub ComesFrom : ℕ → List Stretch → Option LineFault → ℕ → Type 0
ComesFrom number [] None last = number ≤ last
ComesFrom number [] (Some at) last = number ≤ at.line
ComesFrom number (line ∷ others) fault last = number ≤ line.number

-- A line is refused: out of memory in place of what comes next; else because that fault is all that is
-- left.
abbrev pub IsRefused : Fault → ℕ → (TileLines → Type 0) → Type 0
IsRefused Memory number before = (left : TileLines) × before left × ComesFrom number left.lines left.fault left.last
IsRefused fault number before = before (only_fault number fault)

-- Reading stands at the line of this number, of which some first bytes were taken: whatever may be to come
-- now gives, after these and from that line on, what may have been left before.
abbrev pub StandsAt : ℕ → Limits → (TileLines → Type 0) → (List ℕ → Bool → Type 0) → Type 0
StandsAt number limits before after =
    (start : ℕ)
    × (front : List ℕ)
    × All (λ b. is_newline b ≡ false) front
    × ((bytes : List ℕ) (fails : Bool) → after bytes fails → before (lines_from limits number start (front ++ bytes) fails))

-- Nothing may have been left, since some stretch was the last.
abbrev pub MayBeOver : (TileLines → Type 0) → Type 0
MayBeOver before = (last : ℕ) × before (nothing_left last)

-- whether a line was refused
abbrev pub is_refused_if : Option TileLines → Bool
is_refused_if None = false
is_refused_if (Some left) = is_some left.fault

abbrev pub is_refused : {R : Type 0} → Unread R → Bool
is_refused lines = is_refused_if lines.ended

-- how many lines may be left at most
abbrev pub most_left_if : Option TileLines → ℕ → ℕ → ℕ
most_left_if None tile start = tile + 1 - start
most_left_if (Some known) tile start = 0

abbrev pub most_left : {R : Type 0} → Unread R → ℕ
most_left lines = most_left_if lines.ended lines.limits.tile lines.start

-- whether a failed read is what is left
abbrev pub is_read : Fault → Bool
is_read Read = true
is_read other = false

abbrev pub is_failed_read : Option LineFault → Bool
is_failed_read None = false
is_failed_read (Some at) = is_read at.fault

abbrev pub has_failed_if : Option TileLines → Bool
has_failed_if None = false
has_failed_if (Some left) = is_failed_read left.fault

abbrev pub has_failed : {R : Type 0} → Unread R → Bool
has_failed lines = has_failed_if lines.ended

-- the count of failed reads: one more once a failed read is what is left
abbrev pub failed_reads_between : Bool → Bool → ℕ → ℕ
failed_reads_between false true count = one_more count
failed_reads_between before after count = count

-- the count of failed reads after a call that was refused for this
abbrev pub failed_reads_after : Fault → ℕ → ℕ
failed_reads_after Read count = one_more count
failed_reads_after other count = count

-- Once no more is read, each call answers the same: the fault, or none.
abbrev pub answer_again : {X : Type 0} → Option LineFault → Result (Option X) LineFault
answer_again None = Ok None
answer_again (Some at) = Err (record { line = at.line; fault = at.fault })

abbrev pub IsAgain : {X : Type 0} → Option TileLines → Result (Option X) LineFault → Type 0
IsAgain None result = Unit {0}
IsAgain (Some left) result = result ≡ answer_again left.fault

-- Reading goes on, or it ended before.
abbrev pub IsSameOrOpen : Option TileLines → Option TileLines → Type 0
IsSameOrOpen before now = (before ≡ None) ⊎ (now ≡ before)

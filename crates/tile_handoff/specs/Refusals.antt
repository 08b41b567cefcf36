-- When a put or a close of a row is refused: by the row's state, and by counting over each legal history that it reflects.
use Rattle.std.specs.Prelude.{ℕ, List}
use Rattle.tile_handoff.specs.Row.{RowState, IsClosed, IsFull, HasRoom}
use Rattle.tile_handoff.specs.Reflects.{Answers, WouldChange}
use Rattle.tile_handoff.specs.declared.event.Event.{Event}
use Rattle.tile_handoff.specs.declared.event.Reply.TheVariants.{Closed as ClosedReply, Full as FullReply}
use Rattle.tile_handoff.specs.declared.outcome.NoPut.{NoPut}
use Rattle.tile_handoff.specs.declared.outcome.NoPut.TheVariants.{Closed as NoPutClosed, Full as NoPutFull, Memory as NoPutMemory}
use Rattle.tile_handoff.specs.declared.outcome.NoClose.{NoClose}
use Rattle.tile_handoff.specs.declared.outcome.NoClose.TheVariants.{Closed as NoCloseClosed, Full as NoCloseFull, Memory as NoCloseMemory}

-- the line that a refused put hands back
abbrev pub line_of : NoPut → List ℕ
line_of (NoPutClosed line) = line
line_of (NoPutFull line) = line
line_of (NoPutMemory line) = line

-- the state of tile t in which a put is refused so
abbrev pub PutCause : RowState → ℕ → NoPut → Type 0
PutCause row t (NoPutClosed line) = IsClosed row t
PutCause row t (NoPutFull line) = IsFull row t
PutCause row t (NoPutMemory line) = HasRoom row t

-- the state of tile t in which a close is refused so
abbrev pub CloseCause : RowState → ℕ → NoClose → Type 0
CloseCause row t NoCloseClosed = IsClosed row t
CloseCause row t NoCloseFull = IsFull row t
CloseCause row t NoCloseMemory = HasRoom row t

-- a refused put is answered by counting; out of memory only comes where counting accepts
abbrev pub RefusesPut : RowState → Event → NoPut → Type 0
RefusesPut row event (NoPutClosed line) = Answers row event ClosedReply row
RefusesPut row event (NoPutFull line) = Answers row event FullReply row
RefusesPut row event (NoPutMemory line) = WouldChange row event

-- the same of a refused close
abbrev pub RefusesClose : RowState → Event → NoClose → Type 0
RefusesClose row event NoCloseClosed = Answers row event ClosedReply row
RefusesClose row event NoCloseFull = Answers row event FullReply row
RefusesClose row event NoCloseMemory = WouldChange row event

-- How the calls of queues answer.
use Rattle.std.specs.Prelude.{ℕ, ◌≡◌, true, false, [], ◌∷◌}
use Rattle.tile_handoff.specs.Queues.{QueuesState, queue_of, with_queue, shorter, WasClosed, HasNoPlace}
use Rattle.tile_handoff.specs.declared.note.Note.TheVariants.{Line as LineNote, End as EndNote}
use Rattle.tile_handoff.specs.declared.outcome.NoPut.{NoPut}
use Rattle.tile_handoff.specs.declared.outcome.NoPut.TheVariants.{Closed as NoPutClosed, Full as NoPutFull, Memory as NoPutMemory}
use Rattle.tile_handoff.specs.declared.outcome.NoClose.{NoClose}
use Rattle.tile_handoff.specs.declared.outcome.NoClose.TheVariants.{Closed as NoCloseClosed, Full as NoCloseFull, Memory as NoCloseMemory}
use Rattle.tile_handoff.specs.declared.outcome.Took.{Took}
use Rattle.tile_handoff.specs.declared.outcome.Took.TheVariants.{Line, End, Empty, Drained}

-- the state of tile t in which its queue refuses a line so; it never is out of memory
abbrev pub RefusesLine : QueuesState → ℕ → NoPut → Type 0
RefusesLine queues t (NoPutClosed line) = WasClosed queues t
RefusesLine queues t (NoPutFull line) = HasNoPlace queues t
RefusesLine queues t (NoPutMemory line) = ⊥

-- the same of the end note
abbrev pub RefusesEnd : QueuesState → ℕ → NoClose → Type 0
RefusesEnd queues t NoCloseClosed = WasClosed queues t
RefusesEnd queues t NoCloseFull = HasNoPlace queues t
RefusesEnd queues t NoCloseMemory = ⊥

-- what a take of tile t gives is the first note left; where none is left, whether the tile was closed
abbrev pub TakesNote : QueuesState → ℕ → Took → QueuesState → Type 0
TakesNote old t (Line line) new =
    ((queue_of old t).left ≡ LineNote line ∷ (queue_of new t).left) × (new ≡ with_queue old t (shorter (queue_of old t)))
TakesNote old t (End end) new =
    ((queue_of old t).left ≡ EndNote end ∷ (queue_of new t).left) × (new ≡ with_queue old t (shorter (queue_of old t)))
TakesNote old t Empty new = ((queue_of old t).left ≡ []) × ((queue_of old t).closed ≡ false) × (new ≡ old)
TakesNote old t Drained new = ((queue_of old t).left ≡ []) × ((queue_of old t).closed ≡ true) × (new ≡ old)

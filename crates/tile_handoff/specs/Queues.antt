-- What a contract sees of queues, and what the calls make of them.
use Rattle.std.specs.Prelude.{ℕ, ◌≡◌, ◌<◌, Bool, true, false, List, [], ◌∷◌, ◌++◌, length, drop, replicate, slice_index_or, slice_set}
use Rattle.tile_handoff.specs.declared.note.Note.{Note}
use Rattle.tile_handoff.specs.declared.note.Note.TheVariants.{Line, End}

-- whether a tile was closed, and the notes left of it
pub record Queue : Type 0 where
  pub closed : Bool
  pub left : List Note

-- how many notes each queue may hold, and the queue of each tile
pub record QueuesState : Type 0 where
  pub capacity : ℕ
  pub tiles : List Queue

-- an open queue with no notes
abbrev pub empty_queue : Queue
empty_queue = record { closed = false; left = [] }

-- as many empty queues
abbrev pub empty_queues : ℕ → ℕ → QueuesState
empty_queues tiles capacity = record { capacity = capacity; tiles = replicate tiles empty_queue }

-- the queue of tile t
abbrev pub queue_of : QueuesState → ℕ → Queue
queue_of queues t = slice_index_or queues.tiles t empty_queue

-- the queue with a note more at its end; an end note closes it
abbrev pub longer : Queue → Note → Queue
longer queue (Line line) = record { closed = queue.closed; left = queue.left ++ Line line ∷ [] }
longer queue (End end) = record { closed = true; left = queue.left ++ End end ∷ [] }

-- the queue without its first note
abbrev pub shorter : Queue → Queue
shorter queue = record { closed = queue.closed; left = drop 1 queue.left }

-- the queues with another one at tile t
abbrev pub with_queue : QueuesState → ℕ → Queue → QueuesState
with_queue queues t queue = record { capacity = queues.capacity; tiles = slice_set queues.tiles t queue }

-- the queues have the same capacity, and there are as many
abbrev pub HaveSameShape : QueuesState → QueuesState → Type 0
HaveSameShape old new = (new.capacity ≡ old.capacity) × (length new.tiles ≡ length old.tiles)

-- tile t was closed
abbrev pub WasClosed : QueuesState → ℕ → Type 0
WasClosed queues t = (queue_of queues t).closed ≡ true

-- tile t was not closed, and its queue has no place left
abbrev pub HasNoPlace : QueuesState → ℕ → Type 0
HasNoPlace queues t = ((queue_of queues t).closed ≡ false) × (length (queue_of queues t).left ≡ queues.capacity)

-- tile t was not closed, and its queue has a place left
abbrev pub HasPlace : QueuesState → ℕ → Type 0
HasPlace queues t = ((queue_of queues t).closed ≡ false) × (length (queue_of queues t).left < queues.capacity)

-- What the fields of queues keep.
use Rattle.std.specs.Prelude.{ℕ, ◌≡◌, ◌<◌, ◌≤◌, length, map, slice_index_or}
use Rattle.tile_handoff.specs.Queues.{Queue, QueuesState}
use Rattle.tile_handoff.specs.declared.queues.Tile.{Tile}
use Rattle.tile_handoff.specs.declared.queues.Queues.TheInside.{Inside}

-- a tile's queue as contracts see it
abbrev pub queue_in : Tile → Queue
queue_in tile = record { closed = tile.closed; left = tile.ring.items }

-- the queues as contracts see them
abbrev pub queues_state : Inside → QueuesState
queues_state queues = record { capacity = queues.capacity; tiles = map queue_in queues.tiles.items }

-- a tile's ring has the capacity, and holds no more
pub record HasRing (capacity : ℕ) (tile : Tile) : Type 0 where
  pub ring : tile.ring.capacity ≡ capacity
  pub fits : length tile.ring.items ≤ capacity

-- this holds of each tile
abbrev pub HaveRings : Inside → Type 0
HaveRings queues =
    (t : ℕ) (default : Tile) → t < length queues.tiles.items
    → HasRing queues.capacity (slice_index_or queues.tiles.items t default)

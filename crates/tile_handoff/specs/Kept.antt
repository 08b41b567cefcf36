-- What the fields of a row keep.
use Rattle.std.specs.Prelude.{ℕ, ◌+◌, ◌^◌, ◌≡◌, ◌<◌, ◌≤◌, List, length, map, slice_index_or}
use Rattle.tile_handoff.specs.Queues.{Queue, queue_of}
use Rattle.tile_handoff.specs.Row.{RowState, closed_in, taken_in}
use Rattle.tile_handoff.specs.declared.mark.Mark.{Mark}
use Rattle.tile_handoff.specs.declared.row.Row.TheInside.{Inside}

-- the row as contracts see it
abbrev pub state_of : Inside → RowState
state_of row =
    record { capacity = row.queues.capacity; marks = row.marks; left = map (λ queue. queue.left) row.queues.tiles }

-- a tile's queue holds no more than the capacity, its flag and the count of its takes are those of the marks, and it
-- was asked no more than the marks have
pub record IsKept (capacity : ℕ) (marks : List Mark) (t : ℕ) (queue : Queue) (taken : ℕ) : Type 0 where
  pub fits : length queue.left ≤ capacity
  pub closed : queue.closed ≡ closed_in marks t
  pub count : taken ≡ taken_in marks t
  pub within : taken + length queue.left ≤ length marks

-- this holds of each tile, and the marks can be counted
pub record IsWellKept (row : Inside) : Type 0 where
  pub counts : length row.taken.items ≡ length row.queues.tiles
  pub tiles : (t : ℕ) (default : ℕ) → t < length row.taken.items
      → IsKept row.queues.capacity row.marks t (queue_of row.queues t) (slice_index_or row.taken.items t default)
  pub few : length row.marks < 2 ^ 64

use Rattle.std.proofs.Common.{◌≡◌, ℕ, ◌<◌, ◌≤◌, length, false, [], get_or}
use Rattle.circular_buffer.specs.Buffer.{buffer}
use Rattle.tile_handoff.specs.declared.queues.Tile.{Tile}
use Rattle.tile_handoff.proofs.queues.Queues.new.Given as goal

-- the tiles so far are empty and open, and there is room for the others
abbrev pub invariant-loop-tile : goal.invariant-loop-tile
invariant-loop-tile l = record {
  made : length l.queues.items ≡ l._tile;
  room : l.tiles ≤ l.queues.cap;
  fresh : (t : ℕ) (default : Tile) → t < l._tile
      → get_or l.queues.items t default ≡ record { ring = buffer [] l.capacity; closed = false };
}

-- A tile that is being read: what its first line holds, and the lines after it.
use Rattle.std.specs.Prelude.{◌+◌, ◌^◌, ℕ, length}
use Rattle.tile_stream.specs.Held.{HeldLine}
use Rattle.tile_stream.specs.Unread.{Unread, most_left}

-- The texts of the features that come first, not yet moved, and the lines after these.
pub record TileState (R : Type 0) : Type 0 where
  pub held : HeldLine
  pub lines : Unread R

-- how many texts may be to come at most
abbrev pub most_to_come : {R : Type 0} → TileState R → ℕ
most_to_come tile = length tile.held.texts + most_left tile.lines

-- how many texts a tile gives at most
abbrev pub most_texts : ℕ
most_texts = 2 ^ 63 + 2 ^ 40

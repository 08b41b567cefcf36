-- How much there may be of each thing: the numbers that definitions speak of. `src/limits.rt` says where each comes
-- from.
use Rattle.std.specs.Prelude.{◌^◌, ℕ}

-- bytes of a line without its newline, and of a document
abbrev pub max_line_bytes : ℕ
max_line_bytes = 2 ^ 28

-- bytes of a tile
abbrev pub max_tile_bytes : ℕ
max_tile_bytes = 2 ^ 40

-- arrays and objects within one another
abbrev pub max_depth : ℕ
max_depth = 128

-- steps of a component: 2^53 - 1, up to which a number in floating point is exact
abbrev pub max_steps : ℕ
max_steps = 9007199254740991

-- tiles of a merge
abbrev pub max_tiles : ℕ
max_tiles = 64

-- notes that are kept of one tile until they are taken
abbrev pub max_capacity : ℕ
max_capacity = 1024

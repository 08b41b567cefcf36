-- What a tape leaves: one list of lines, since it is known what a tape gives.
use Rattle.std.specs.Prelude.{◌++◌, Option, Some, None}
use Rattle.byte_streams.specs.Tape.{TapeState}
use Rattle.tile_stream.specs.Tile.{TileLines, lines_from}
use Rattle.tile_stream.specs.Unread.{Unread}

abbrev pub left_on_tape_if : Option TileLines → Unread TapeState → TileLines
left_on_tape_if (Some known) lines = known
left_on_tape_if None lines = lines_from lines.limits lines.number lines.start (lines.ahead.held ++ lines.ahead.reader.left) lines.ahead.reader.fails

abbrev pub left_on_tape : Unread TapeState → TileLines
left_on_tape lines = left_on_tape_if lines.ended lines

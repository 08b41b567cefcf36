-- The lines of a tile: the stretches between newlines, numbered from 1, blank ones left out, up to the first fault.
use Rattle.std.specs.Prelude.{◌+◌, ◌-◌, ◌==◌, ◌&&◌, ◌||◌, ℕ, Bool, not, List, [], ◌∷◌, Option, Some, None, length, filter, filter_map, take_while, option_map, is_none, nat_le, nat_lt, if◌then◌else◌}
use Rattle.std.specs.List.{slice_split, list_all}
use Rattle.byte_streams.specs.Limits.{max_line_bytes, max_tile_bytes}
use Rattle.city_json.specs.Bytes.{space, tab, newline, carriage_return}
use Rattle.byte_streams.specs.declared.fault.Fault.{Fault}
use Rattle.byte_streams.specs.declared.fault.Fault.TheVariants.{LineTooLong, TileTooLong, Read}
use Rattle.byte_streams.specs.declared.places.LineFault.{LineFault}
use Rattle.tile_stream.specs.declared.limits.Limits.{Limits}

-- what a reader gave: its bytes up to its first end or its first Err, and whether an Err came
pub record Tile : Type 0 where
  pub bytes : List ℕ
  pub fails : Bool

abbrev pub tile_of : List ℕ → Bool → Tile
tile_of bytes fails = record { bytes = bytes; fails = fails }

-- what stands between two newlines: its number from 1, the byte at which it begins from 0, and its bytes
pub record Stretch : Type 0 where
  pub number : ℕ
  pub start : ℕ
  pub bytes : List ℕ

abbrev pub stretch_of : ℕ → ℕ → List ℕ → Stretch
stretch_of number start bytes = record { number = number; start = start; bytes = bytes }

abbrev pub is_newline : ℕ → Bool
is_newline b = b == newline

-- each stretch begins after the newline that ends the one before it
abbrev pub number_stretches : ℕ → ℕ → List (List ℕ) → List Stretch
number_stretches number start [] = []
number_stretches number start (bytes ∷ others) =
    record { number = number; start = start; bytes = bytes } ∷ number_stretches (number + 1) (start + length bytes + 1) others

-- the most bytes that a line and a tile may have
abbrev pub limits_of : ℕ → ℕ → Limits
limits_of line tile = record { line = line; tile = tile }

-- the limits of the streams that the program reads
abbrev pub stream_limits : Limits
stream_limits = limits_of max_line_bytes max_tile_bytes

-- More bytes than a line may have stand in a row without a newline, all of them within the tile's limit.
abbrev pub is_long_line : Limits → ℕ → ℕ → Bool
is_long_line limits start end = nat_lt limits.line (end - start) && nat_le (start + limits.line + 1) limits.tile

-- No newline ends the line within the tile's limit, and the tile goes on after that limit.
abbrev pub is_past_limit : Limits → ℕ → ℕ → Bool
is_past_limit limits size end = nat_le limits.tile end && nat_lt limits.tile size

-- The line ends where the reader failed.
abbrev pub is_broken_off : ℕ → Bool → ℕ → Bool
is_broken_off size fails end = fails && (end == size)

-- why a line from byte `start` to byte `end` is refused, in a tile of `size` bytes
abbrev pub fault_between : Limits → ℕ → Bool → ℕ → ℕ → Option Fault
fault_between limits size fails start end =
    if is_long_line limits start end then Some LineTooLong
    else (if is_past_limit limits size end then Some TileTooLong
    else (if is_broken_off size fails end then Some Read
    else None))

abbrev pub fault_at : Limits → ℕ → Bool → Stretch → Option Fault
fault_at limits size fails stretch = fault_between limits size fails stretch.start (stretch.start + length stretch.bytes)

-- A blank line has only spaces, tabs and carriage returns, or nothing. The carriage return of CR LF belongs to the line.
abbrev pub is_blank : List ℕ → Bool
is_blank line = list_all (λ b. (b == space) || (b == tab) || (b == carriage_return)) line

-- the number of a line, and why it is refused
abbrev pub faulty_line : Limits → ℕ → Bool → Stretch → Option LineFault
faulty_line limits size fails stretch = option_map (λ fault. record { line = stretch.number; fault = fault }) (fault_at limits size fails stretch)

abbrev pub first_of : {X : Type 0} → List X → Option X
first_of [] = None
first_of (x ∷ xs) = Some x

-- the number of the last of these stretches, or where there is none of the stretch before them
abbrev pub last_number : ℕ → List Stretch → ℕ
last_number before [] = before
last_number before (stretch ∷ others) = last_number stretch.number others

-- What a tile gives: the lines before the first stretch at fault, blank ones left out, and that fault, if
-- there is one; and the number of the stretch at which it ends, the one at fault or else its last.
pub record TileLines : Type 0 where
  pub lines : List Stretch
  pub fault : Option LineFault
  pub last : ℕ

-- the stretch at fault, or else the last of these
abbrev pub end_number : Option LineFault → List Stretch → ℕ
end_number None some_stretches = last_number 0 some_stretches
end_number (Some at) some_stretches = at.line

-- what these stretches give, in a tile of `size` bytes
abbrev pub lines_of_stretches : Limits → ℕ → Bool → List Stretch → TileLines
lines_of_stretches limits size fails some_stretches = record {
  lines = filter (λ stretch. not (is_blank stretch.bytes)) (take_while (λ stretch. is_none (fault_at limits size fails stretch)) some_stretches);
  fault = first_of (filter_map (faulty_line limits size fails) some_stretches);
  last = end_number (first_of (filter_map (faulty_line limits size fails) some_stretches)) some_stretches;
}

-- what a tile gives from byte `start` on, where the line of this number begins and these bytes follow
abbrev pub lines_from : Limits → ℕ → ℕ → List ℕ → Bool → TileLines
lines_from limits number start bytes fails = lines_of_stretches limits (start + length bytes) fails (number_stretches number start (slice_split is_newline bytes))

abbrev pub tile_lines : Limits → Tile → TileLines
tile_lines limits tile = lines_from limits 1 0 tile.bytes tile.fails

-- a line, and then what else is given
abbrev pub line_before : Stretch → TileLines → TileLines
line_before stretch after = record { lines = stretch ∷ after.lines; fault = after.fault; last = after.last }

-- nothing is to come after the stretch of this number
abbrev pub nothing_left : ℕ → TileLines
nothing_left number = record { lines = []; fault = None; last = number }

-- only a fault is to come
abbrev pub only_fault : ℕ → Fault → TileLines
only_fault number fault = record { lines = []; fault = Some (record { line = number; fault = fault }); last = number }

-- Which fault is told, where several tiles ended with one.
use Rattle.std.specs.Prelude.{◌+◌, ℕ, Bool, true, false, List, [], ◌∷◌, Option, Some, None, if◌then◌else◌}
use Rattle.byte_streams.specs.declared.fault.Fault.{Fault}
use Rattle.byte_streams.specs.declared.fault.Fault.TheVariants.{Memory}
use Rattle.tile_stream.specs.Texts.{Outcome}
use Rattle.byte_streams.specs.declared.places.MergeFault.{MergeFault}
use Rattle.byte_streams.specs.declared.places.LineFault.{LineFault}

abbrev pub is_memory : Fault → Bool
is_memory Memory = true
is_memory other = false

-- the fault of the tile of this number
abbrev pub fault_of_tile : ℕ → LineFault → MergeFault
fault_of_tile tile at = record { tile = tile; line = at.line; fault = at.fault }

-- the fault of the first tile of which this holds, where tiles are counted from `tile`
abbrev pub first_where : (Fault → Bool) → ℕ → List Outcome → Option MergeFault
first_where test tile [] = None
first_where test tile (None ∷ others) = first_where test (tile + 1) others
first_where test tile (Some at ∷ others) =
    if test at.fault then Some (fault_of_tile tile at) else first_where test (tile + 1) others

abbrev pub or_else : Option MergeFault → Option MergeFault → Option MergeFault
or_else None other = other
or_else (Some fault) other = Some fault

-- that of the lowest tile that ran out of memory, or else of the lowest that has one; tiles are
-- counted from `tile`
abbrev pub first_refusal : ℕ → List Outcome → Option MergeFault
first_refusal tile outcomes = or_else (first_where is_memory tile outcomes) (first_where (λ fault. true) tile outcomes)

-- What the lines of a tile come to: the texts that they give, in order, and how that ends. `Gives
-- bytes text` says that a line of these bytes gives this text, or none; `Refuses fault bytes` why it
-- gives neither.
use Rattle.std.specs.Prelude.{◌≡◌, ◌⊎◌, ◌++◌, ◌≤◌, ◌<◌, ℕ, List, [], ◌∷◌, Option, Some, None, option_to_list}
use Rattle.byte_streams.specs.declared.fault.Fault.{Fault}
use Rattle.byte_streams.specs.declared.fault.Fault.TheVariants.{Memory}
use Rattle.byte_streams.specs.declared.places.LineFault.{LineFault}
use Rattle.tile_stream.specs.Tile.{Stretch, TileLines}

-- how a tile ended: nothing is wrong, or the number of the line at which it stopped, and why
abbrev pub Outcome : Type 0
Outcome = Option LineFault

-- memory ran out at a line of this number at the latest
abbrev pub IsOutOfMemory : ℕ → LineFault → Type 0
IsOutOfMemory number at = (at.fault ≡ Memory) × (at.line ≤ number)

-- how a tile ends after its last line, at the stretch of this number: as it is, or out of memory
abbrev pub EndsSo : Option LineFault → ℕ → Outcome → Type 0
EndsSo None last None = Unit {0}
EndsSo None last (Some at) = IsOutOfMemory last at
EndsSo (Some fault) last None = ⊥
EndsSo (Some fault) last (Some at) = (at ≡ fault) ⊎ IsOutOfMemory fault.line at

-- the tile stops at this line: it is refused, or memory ran out
abbrev pub StopsAt : (Fault → List ℕ → Type 0) → Stretch → Outcome → Type 0
StopsAt Refuses line None = ⊥
StopsAt Refuses line (Some at) =
    ((at.line ≡ line.number) × Refuses at.fault line.bytes) ⊎ IsOutOfMemory line.number at

-- the tile ends after the line of this number
abbrev pub EndsAfterLine : ℕ → Outcome → Type 0
EndsAfterLine number None = Unit {0}
EndsAfterLine number (Some at) = number < at.line

-- These lines, and then the fault of the tile, which ends at the stretch of this number, come to these
-- texts and end so.
abbrev pub LinesComeTo : (List ℕ → Option (List ℕ) → Type 0) → (Fault → List ℕ → Type 0) → List Stretch → Option LineFault → ℕ → List (List ℕ) → Outcome → Type 0
LinesComeTo Gives Refuses [] fault last texts outcome = (texts ≡ []) × EndsSo fault last outcome
LinesComeTo Gives Refuses (line ∷ others) fault last texts outcome =
    ((texts ≡ []) × StopsAt Refuses line outcome)
    ⊎ ((given : Option (List ℕ))
    × (more : List (List ℕ))
    × Gives line.bytes given
    × EndsAfterLine line.number outcome
    × LinesComeTo Gives Refuses others fault last more outcome
    × (texts ≡ option_to_list given ++ more))

abbrev pub ComesTo : (List ℕ → Option (List ℕ) → Type 0) → (Fault → List ℕ → Type 0) → TileLines → List (List ℕ) → Outcome → Type 0
ComesTo Gives Refuses tile texts outcome =
    LinesComeTo Gives Refuses tile.lines tile.fault tile.last texts outcome

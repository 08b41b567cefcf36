-- A whole input that is one document, and why it is refused (RFC 8259; CityJSON 2.0).
use Rattle.std.specs.Prelude.{◌≡◌, ◌≤◌, ◌<◌, ◌⊎◌, ℕ, Bool, true, false, List, length}
use Rattle.byte_streams.specs.Limits.{max_line_bytes}
use Rattle.city_json.specs.Depth.{IsDeep}
use Rattle.city_json.specs.Fits.{Fits}
use Rattle.city_json.specs.Grammar.{IsBlank, Spells}
use Rattle.city_json.specs.Refusals.{RefusesText}
use Rattle.city_json.specs.Tree.{Tree}
use Rattle.byte_streams.specs.declared.fault.Fault.{Fault}
use Rattle.byte_streams.specs.declared.fault.Fault.TheVariants.{LineTooLong, NoHeader, Read}
use Rattle.city_families.specs.Cut.{RefusesCut}
use Rattle.tile_stream.specs.Tile.{Tile, tile_of}

-- the reader may give such an input
abbrev pub SomeInput : (List ℕ → Bool → Type 0) → (Tile → Type 0) → Type 0
SomeInput gives P = (bytes : List ℕ) × (fails : Bool) × gives bytes fails × P (tile_of bytes fails)

-- it ends, and is not too long
abbrev pub IsWholeInput : Tile → Type 0
IsWholeInput input = (length input.bytes ≤ max_line_bytes) × (input.fails ≡ false)

-- the text spells this value, which fits, and nests no deeper than a value may
abbrev pub IsReadAs : List ℕ → Tree → Type 0
IsReadAs text value = Spells text value × Fits value × ¬ IsDeep text

-- it is no text of a value, or that of one which is not cut
abbrev pub RefusesDocument : Fault → List ℕ → Type 0
RefusesDocument fault text = RefusesText fault text ⊎ ((document : Tree) × IsReadAs text document × RefusesCut fault document)

-- Why an input is refused: it is too long; or it cannot be read to its end; or it is blank; or what it spells is no
-- document that is cut.
abbrev pub RefusesInput : Fault → Tile → Type 0
RefusesInput LineTooLong input = max_line_bytes < length input.bytes
RefusesInput Read input = (length input.bytes ≤ max_line_bytes) × (input.fails ≡ true)
RefusesInput NoHeader input = IsWholeInput input × IsBlank input.bytes
RefusesInput fault input = IsWholeInput input × (¬ IsBlank input.bytes) × RefusesDocument fault input.bytes

-- The features of a tile while they are written, one after another: `comes` says which texts and
-- which end may be to come.
use Rattle.std.specs.Prelude.{◌≡◌, ◌++◌, ℕ, List, Option, Some, None, length, take, flat_map}
use Rattle.std.specs.Io.KnownBytes.{Appends}
use Rattle.byte_streams.specs.declared.fault.Fault.{Fault}
use Rattle.byte_streams.specs.declared.fault.Fault.TheVariants.{Write}
use Rattle.byte_streams.specs.declared.places.LineFault.{LineFault}
use Rattle.tile_stream.specs.Stream.{with_newline}
use Rattle.tile_stream.specs.Texts.{Outcome}

-- This many texts came, whatever may come now may have come after them, and their lines were written.
pub record SoFar (before now : List (List ℕ) → Outcome → Type 0) (count : ℕ) (old new : Option (List ℕ)) : Type 0 where
  pub texts : List (List ℕ)
  pub back : (others : List (List ℕ)) (outcome : Outcome) → now others outcome → before (texts ++ others) outcome
  pub counted : count ≡ length texts
  pub written : Appends old new (flat_map with_newline texts)

-- So many texts came, then the end, and their lines were written.
abbrev pub WroteTexts : (List (List ℕ) → Outcome → Type 0) → ℕ → Option (List ℕ) → Option (List ℕ) → Type 0
WroteTexts comes count old new =
    (texts : List (List ℕ))
    × comes texts None
    × (count ≡ length texts)
    × Appends old new (flat_map with_newline texts)

-- Some texts came, then this fault, and the lines of the texts were written.
abbrev pub StoppedAfter : (List (List ℕ) → Outcome → Type 0) → LineFault → Option (List ℕ) → Option (List ℕ) → Type 0
StoppedAfter comes at old new =
    (texts : List (List ℕ)) × comes texts (Some at) × Appends old new (flat_map with_newline texts)

-- the first bytes of the lines of such texts were written, and nothing else
abbrev pub WroteFront : (List (List ℕ) → Outcome → Type 0) → Option (List ℕ) → Option (List ℕ) → Type 0
WroteFront comes old new =
    (texts : List (List ℕ))
    × (outcome : Outcome)
    × (count : ℕ)
    × comes texts outcome
    × Appends old new (take count (flat_map with_newline texts))

abbrev pub IsRefusedAfter : (List (List ℕ) → Outcome → Type 0) → Fault → ℕ → ℕ → Option (List ℕ) → Option (List ℕ) → Type 0
IsRefusedAfter comes Write tile line old new = (tile ≡ 0) × (line ≡ 0) × WroteFront comes old new
IsRefusedAfter comes fault tile line old new =
    (tile ≡ 1) × StoppedAfter comes (record { line = line; fault = fault }) old new

-- the line of the text that is given was written, if there is one
abbrev pub HasWritten : Option (List ℕ) → ℕ → Option (List ℕ) → Option (List ℕ) → Type 0
HasWritten (Some text) count old new = (count ≡ 1) × Appends old new (with_newline text)
HasWritten None count old new = (count ≡ 0) × (new ≡ old)

-- there is one, and of its line some first bytes were written, or all, and nothing else
abbrev pub HasBegun : Option (List ℕ) → Option (List ℕ) → Option (List ℕ) → Type 0
HasBegun (Some text) old new = (count : ℕ) × Appends old new (take count (with_newline text))
HasBegun None old new = ⊥

-- The stream of the features that a document is cut into, and what was written of it (CityJSON 2.0, Text sequences and
-- streaming with CityJSONFeature).
use Rattle.std.specs.Prelude.{◌≡◌, ℕ, Bool, List, Option, length, take}
use Rattle.std.specs.Io.KnownBytes.{Appends, Keeps}
use Rattle.city_json.specs.Compact.{compact}
use Rattle.city_json.specs.Tree.{Tree}
use Rattle.byte_streams.specs.declared.fault.Fault.{Fault}
use Rattle.byte_streams.specs.declared.fault.Fault.TheVariants.{Write, Memory}
use Rattle.city_feature.specs.Feature.{FeatureValue}
use Rattle.city_feature.specs.Header.{HeaderValue}
use Rattle.city_families.specs.Cut.{IsCut, IsCuttable}
use Rattle.city_families.specs.Lines.{texts_of}
use Rattle.tile_stream.specs.Stream.{stream}
use Rattle.tile_stream.specs.Tile.{Tile}
use Rattle.document_stream.specs.Input.{IsReadAs, IsWholeInput, RefusesInput, SomeInput}

-- The input spells a document of which nothing is refused, and this is the header and these are the features that it is
-- cut into.
abbrev pub CutsTo : Tile → HeaderValue → List FeatureValue → Type 0
CutsTo input header features =
    IsWholeInput input
    × ((document : Tree) × IsReadAs input.bytes document × IsCuttable document × IsCut document header features)

-- the line of the header, and then those of the features
abbrev pub cut_stream : HeaderValue → List FeatureValue → List ℕ
cut_stream header features = stream (compact header.value) (texts_of features)

-- the input is cut into so many features, and these bytes are their stream
abbrev pub IsStreamOf : Tile → ℕ → List ℕ → Type 0
IsStreamOf input count bytes =
    (header : HeaderValue)
    × (features : List FeatureValue)
    × CutsTo input header features
    × (count ≡ length features)
    × (bytes ≡ cut_stream header features)

-- and it was written
abbrev pub WroteCut : Tile → ℕ → Option (List ℕ) → Option (List ℕ) → Type 0
WroteCut input count old new = (bytes : List ℕ) × IsStreamOf input count bytes × Appends old new bytes

-- the first bytes of that stream were written, and nothing else
abbrev pub WroteFirstBytes : Tile → Option (List ℕ) → Option (List ℕ) → Type 0
WroteFirstBytes input old new =
    (count : ℕ) × (bytes : List ℕ) × IsStreamOf input count bytes × (first : ℕ) × Appends old new (take first bytes)

-- A failed write belongs to no tile, all else to the one tile as a whole, and leaves nothing written: out of memory, or a
-- cause in the input.
abbrev pub IsRefusedDocument : (List ℕ → Bool → Type 0) → Fault → ℕ → ℕ → Option (List ℕ) → Option (List ℕ) → Type 0
IsRefusedDocument gives Write tile line old new =
    (tile ≡ 0) × (line ≡ 0) × SomeInput gives (λ input. WroteFirstBytes input old new)
IsRefusedDocument gives Memory tile line old new = (tile ≡ 1) × (line ≡ 0) × Keeps old new
IsRefusedDocument gives fault tile line old new =
    (tile ≡ 1) × (line ≡ 0) × Keeps old new × SomeInput gives (RefusesInput fault)

-- The head of a tile: the header and the features for which its first line stands, or why it has none.
use Rattle.std.specs.Prelude.{◌≡◌, ◌⊎◌, ◌<◌, ℕ, Bool, List, [], ◌∷◌, Option, Some, None}
use Rattle.std.specs.List.{AllZip}
use Rattle.city_json.specs.Fits.{Fits}
use Rattle.city_json.specs.Grammar.{Spells}
use Rattle.city_json.specs.Refusals.{RefusesText}
use Rattle.city_json.specs.Tree.{Tree}
use Rattle.byte_streams.specs.declared.fault.Fault.{Fault}
use Rattle.byte_streams.specs.declared.fault.Fault.TheVariants.{NoHeader}
use Rattle.byte_streams.specs.declared.places.LineFault.{LineFault}
use Rattle.city_families.specs.Cut.{IsCut, IsCuttable, RefusesCut}
use Rattle.city_feature.specs.Feature.{FeatureValue}
use Rattle.city_feature.specs.FeatureLine.{SpellsFeature}
use Rattle.city_feature.specs.Header.{HeaderValue, HoldsCity, IsHeader, RefusesHeader}
use Rattle.tile_stream.specs.Ahead.{MayCome}
use Rattle.tile_stream.specs.Held.{Held, HeldLine, AreTextsOf}
use Rattle.tile_stream.specs.Texts.{IsOutOfMemory}
use Rattle.tile_stream.specs.Tile.{Stretch, TileLines, line_before}
use Rattle.tile_stream.specs.Unread.{Unread, Leaves, GivesLine, StandsAt}

-- A value with city objects or vertices is a document and is cut; each other one is a header, and
-- holds no features.
abbrev pub HoldsHead : Tree → HeaderValue → List FeatureValue → Type 0
HoldsHead value header features =
    (HoldsCity value × IsCuttable value × IsCut value header features)
    ⊎ ((¬ HoldsCity value) × IsHeader value header.grid × (header.value ≡ value) × (features ≡ []))

-- the document is not cut, or the value is no header
abbrev pub RefusesHeadValue : Fault → Tree → Type 0
RefusesHeadValue fault value =
    (HoldsCity value × RefusesCut fault value) ⊎ ((¬ HoldsCity value) × RefusesHeader fault value)

abbrev pub SpellsHead : List ℕ → HeaderValue → List FeatureValue → Type 0
SpellsHead line header features =
    (value : Tree) × Spells line value × Fits value × HoldsHead value header features

-- the same where the features have these texts, each of which spells its feature
abbrev pub SpellsHeadOf : List ℕ → HeaderValue → List (List ℕ) → Type 0
SpellsHeadOf line header texts =
    (features : List FeatureValue) × SpellsHead line header features × AllZip SpellsFeature texts features

-- whatever value the line spells, it holds no city
abbrev pub SpellsNoCity : List ℕ → Type 0
SpellsNoCity line = (value : Tree) → Spells line value → ¬ HoldsCity value

-- the line spells no value that is taken, or one that is no head
abbrev pub RefusesHead : Fault → List ℕ → Type 0
RefusesHead fault line =
    RefusesText fault line
    ⊎ ((value : Tree) × Spells line value × Fits value × RefusesHeadValue fault value)

-- the first line stands for this header and holds these features, and these lines come after it
abbrev pub HasHead : TileLines → HeaderValue → Held → TileLines → Type 0
HasHead tile header held after =
    (line : Stretch)
    × (tile ≡ line_before line after)
    × (line.number ≡ held.line)
    × SpellsHead line.bytes header held.features

-- memory ran out before the first line was taken: at a line, of this number at the latest
abbrev pub IsOutOfMemoryBy : ℕ → LineFault → Type 0
IsOutOfMemoryBy number at = (0 < at.line) × IsOutOfMemory number at

-- why there is none: there is no line; or the tile is at fault before its first line ends; or that
-- line is refused; memory may run out before
abbrev pub LinesHaveNoHead : List Stretch → Option LineFault → ℕ → LineFault → Type 0
LinesHaveNoHead [] None last at = ((at.line ≡ 0) × (at.fault ≡ NoHeader)) ⊎ IsOutOfMemoryBy last at
LinesHaveNoHead [] (Some fault) last at = (at ≡ fault) ⊎ IsOutOfMemoryBy fault.line at
LinesHaveNoHead (line ∷ others) fault last at =
    ((at.line ≡ line.number) × RefusesHead at.fault line.bytes) ⊎ IsOutOfMemoryBy line.number at

abbrev pub HasNoHead : TileLines → LineFault → Type 0
HasNoHead tile at = LinesHaveNoHead tile.lines tile.fault tile.last at

-- Out of memory at the line of this number: reading stands at it, or it is the one that was taken.
abbrev pub RanOutAt : {R : Type 0} → (R → List ℕ → Bool → Type 0) → ℕ → Unread R → Unread R → Type 0
RanOutAt gives number before after =
    StandsAt number after.limits (Leaves gives before) (MayCome gives after.ahead)
    ⊎ ((bytes : List ℕ) × GivesLine (Leaves gives before) (Leaves gives after) number bytes)

-- Some tile may be the one that is read, and this holds of it.
abbrev pub SomeTile : (TileLines → Type 0) → (TileLines → Type 0) → Type 0
SomeTile MayBe P = (tile : TileLines) × MayBe tile × P tile

-- Whatever lines may be left now may, after a line that stands for this header and holds these
-- features, have been left before.
abbrev pub GivesHead : (TileLines → Type 0) → (TileLines → Type 0) → HeaderValue → Held → Type 0
GivesHead before after header held =
    (left : TileLines) → after left → SomeTile before (λ tile. HasHead tile header held left)

-- The same where the texts of the features are known.
abbrev pub GivesHeld : (TileLines → Type 0) → (TileLines → Type 0) → HeaderValue → HeldLine → Type 0
GivesHeld before after header there =
    (held : Held) × AreTextsOf held there × GivesHead before after header held

-- What a merge of several tiles may answer, and what was written then.
use Rattle.std.specs.Prelude.{◌≡◌, ◌⊎◌, ◌<◌, ◌+◌, ◌++◌, ℕ, List, ◌∷◌, Option, Some, None, length, map, take}
use Rattle.std.specs.Io.KnownBytes.{Appends, Keeps}
use Rattle.std.specs.List.{AllZip, AllByRecursion}
use Rattle.byte_streams.specs.declared.fault.Fault.TheVariants.{Write, Memory, TooManyTiles}
use Rattle.byte_streams.specs.Limits.{max_tiles}
use Rattle.city_feature.specs.Feature.{FeatureValue}
use Rattle.city_feature.specs.Header.{HeaderValue}
use Rattle.city_feature.specs.Joined.{IsJoined, RefusesJoin}
use Rattle.city_feature.specs.declared.base.Base.{Base}
use Rattle.city_grid.specs.Axes.{Triple}
use Rattle.tile_stream.specs.Head.{HasHead, HasNoHead, SomeTile}
use Rattle.tile_stream.specs.Held.{Held, TileComesTo}
use Rattle.tile_stream.specs.Stream.{stream}
use Rattle.tile_stream.specs.Texts.{Outcome}
use Rattle.tile_stream.specs.Tile.{TileLines, stream_limits}
use Rattle.tile_stream.specs.Unread.{IsOfTile}
use Rattle.tile_merge.specs.Giving.{Giving, Merging}
use Rattle.tile_merge.specs.Told.{first_refusal}
use Rattle.byte_streams.specs.declared.places.MergeFault.{MergeFault}

-- ---- tiles ----

-- a tile with a head: its lines, the header, the features that the header's line holds, and the lines
-- after it
pub record HeadedTile : Type 0 where
  pub lines : TileLines
  pub header : HeaderValue
  pub held : Held
  pub after : TileLines

-- these readers' tiles, one of each, have these heads
abbrev pub HaveHeads : {R : Type 0} → Giving R → List R → List HeadedTile → Type 0
HaveHeads gives readers tiles =
    AllZip (λ reader tile.
    IsOfTile (gives reader) stream_limits tile.lines
    × HasHead tile.lines tile.header tile.held tile.after) readers tiles

abbrev pub headers_of : List HeadedTile → List HeaderValue
headers_of tiles = map (λ tile. tile.header) tiles

-- a tile of a merge: its shift onto the shared grid, the texts that it gives, and how it ended
pub record MergedTile : Type 0 where
  pub tile : HeadedTile
  pub shift : Triple
  pub texts : List (List ℕ)
  pub outcome : Outcome

abbrev pub merged_shifts : List MergedTile → List Triple
merged_shifts tiles = map (λ merged. merged.shift) tiles

abbrev pub merged_texts : List MergedTile → List (List (List ℕ))
merged_texts tiles = map (λ merged. merged.texts) tiles

abbrev pub merged_outcomes : List MergedTile → List Outcome
merged_outcomes tiles = map (λ merged. merged.outcome) tiles

-- its wanted features, moved by its shift, come to these texts and this end
abbrev pub ComesToTexts : (FeatureValue → Type 0) → MergedTile → Type 0
ComesToTexts IsWanted merged =
    TileComesTo IsWanted merged.shift merged.tile.held merged.tile.after merged.texts merged.outcome

-- The tiles of these readers have headers that join to this line, each with its shift, and come to
-- their texts and ends.
pub record Merges {R : Type 0} (gives : Giving R) (IsWanted : FeatureValue → Type 0) (base : Base) (readers : List R) (tiles : List MergedTile) (line : List ℕ) : Type 0 where
  pub heads : HaveHeads gives readers (map (λ merged. merged.tile) tiles)
  pub joined : IsJoined base (headers_of (map (λ merged. merged.tile) tiles)) line (merged_shifts tiles)
  pub texts : AllByRecursion (ComesToTexts IsWanted) tiles

-- ---- what was written ----

-- the stream of all texts was written
pub record WroteMerge {R : Type 0} (asked : Merging R) (tiles : List MergedTile) (old new : Option (List ℕ)) : Type 0 where
  pub line : List ℕ
  pub out : List (List ℕ)
  pub merges : Merges asked.gives asked.IsWanted asked.base asked.readers tiles line
  pub mixes : asked.Mixes (merged_texts tiles) out
  pub written : Appends old new (stream line out)

-- nothing is wrong with any tile, and their stream was written; so many texts are of each
abbrev pub MergedAll : {R : Type 0} → Merging R → List ℕ → Option (List ℕ) → Option (List ℕ) → Type 0
MergedAll asked counts old new =
    (tiles : List MergedTile)
    × WroteMerge asked tiles old new
    × (first_refusal 1 (merged_outcomes tiles) ≡ None)
    × (counts ≡ map length (merged_texts tiles))

-- this is told of a tile that stopped, and the stream of the texts before the ends was written
abbrev pub StoppedAtTile : {R : Type 0} → Merging R → MergeFault → Option (List ℕ) → Option (List ℕ) → Type 0
StoppedAtTile asked refusal old new =
    (tiles : List MergedTile)
    × WroteMerge asked tiles old new
    × (first_refusal 1 (merged_outcomes tiles) ≡ Some refusal)

-- the first bytes of such a stream were written, and nothing else
pub record WroteFrontOf {R : Type 0} (asked : Merging R) (old new : Option (List ℕ)) : Type 0 where
  pub tiles : List MergedTile
  pub line : List ℕ
  pub out : List (List ℕ)
  pub count : ℕ
  pub merges : Merges asked.gives asked.IsWanted asked.base asked.readers tiles line
  pub mixes : asked.Mixes (merged_texts tiles) out
  pub written : Appends old new (take count (stream line out))

-- ---- refusals before a byte is written ----

-- the tile of this number, counted from 1, is the first that has no head, for this fault of this line
pub record IsFirstHeadless {R : Type 0} (gives : Giving R) (readers : List R) (refusal : MergeFault) : Type 0 where
  pub before : List R
  pub reader : R
  pub others : List R
  pub readers_are : readers ≡ before ++ reader ∷ others
  pub tiles : List HeadedTile
  pub heads : HaveHeads gives before tiles
  pub number : refusal.tile ≡ length before + 1
  pub none : SomeTile (IsOfTile (gives reader) stream_limits) (λ lines. HasNoHead lines (record { line = refusal.line; fault = refusal.fault }))

-- the headers do not join: this tile is the first that does not fit, and this the line of its header
pub record IsFirstUnfit {R : Type 0} (gives : Giving R) (base : Base) (readers : List R) (refusal : MergeFault) : Type 0 where
  pub tiles : List HeadedTile
  pub heads : HaveHeads gives readers tiles
  pub before : List HeadedTile
  pub tile : HeadedTile
  pub others : List HeadedTile
  pub tiles_are : tiles ≡ before ++ tile ∷ others
  pub number : refusal.tile ≡ length before + 1
  pub line : refusal.line ≡ tile.held.line
  pub misfit : RefusesJoin base (headers_of tiles) refusal.tile refusal.fault

-- ---- refusals ----

abbrev pub IsOfNoTile : MergeFault → Type 0
IsOfNoTile refusal = (refusal.tile ≡ 0) × (refusal.line ≡ 0)

-- there are more than 64 readers
abbrev pub IsTooMany : {R : Type 0} → List R → MergeFault → Type 0
IsTooMany readers refusal = IsOfNoTile refusal × (refusal.fault ≡ TooManyTiles) × (max_tiles < length readers)

-- before a byte is written: there are too many tiles; one has no head; the headers do not join; or
-- memory ran out
abbrev pub IsRefusedEarly : {R : Type 0} → Giving R → Base → List R → MergeFault → Type 0
IsRefusedEarly gives base readers refusal =
    IsTooMany readers refusal
    ⊎ IsFirstHeadless gives readers refusal
    ⊎ IsFirstUnfit gives base readers refusal
    ⊎ (IsOfNoTile refusal × (refusal.fault ≡ Memory))

-- the output failed while the stream was written
abbrev pub IsOutputFault : MergeFault → Type 0
IsOutputFault refusal =
    IsOfNoTile refusal × (refusal.fault ≡ Write)

-- Why a merge is refused, and what was written: nothing; or the first bytes of a stream, where the
-- output failed; or the whole stream of the texts before the ends, where a tile stopped.
abbrev pub IsRefusedMerge : {R : Type 0} → Merging R → MergeFault → Option (List ℕ) → Option (List ℕ) → Type 0
IsRefusedMerge asked refusal old new =
    (IsRefusedEarly asked.gives asked.base asked.readers refusal × Keeps old new)
    ⊎ (IsOutputFault refusal × WroteFrontOf asked old new)
    ⊎ StoppedAtTile asked refusal old new

-- What a merge with a thread for each tile may answer, and what was written then.
use Rattle.std.specs.Prelude.{◌≡◌, ◌⊎◌, ◌≤◌, ◌<◌, ◌++◌, ℕ, List, Option, Some, None, length}
use Rattle.std.specs.Io.KnownBytes.{Keeps}
use Rattle.byte_streams.specs.declared.fault.Fault.TheVariants.{NoThread}
use Rattle.city_feature.specs.Feature.{FeatureValue}
use Rattle.city_feature.specs.Joined.{IsJoined}
use Rattle.city_feature.specs.declared.base.Base.{Base}
use Rattle.city_grid.specs.Axes.{Triple}
use Rattle.tile_merge.specs.Giving.{Giving, merging}
use Rattle.tile_merge.specs.Interleaves.{Interleaves}
use Rattle.tile_merge.specs.Merged.{HeadedTile, HaveHeads, headers_of, MergedTile, Merges, merged_outcomes, merged_texts, IsRefusedMerge}
use Rattle.tile_stream.specs.Stream.{stream}
use Rattle.tile_merge.specs.Told.{first_refusal}
use Rattle.byte_streams.specs.declared.places.MergeFault.{MergeFault}

-- the tiles of these readers have headers, and these join
abbrev pub HeadersJoin : {R : Type 0} → Giving R → Base → List R → Type 0
HeadersJoin gives base readers =
    (tiles : List HeadedTile)
    × (line : List ℕ)
    × (shifts : List Triple)
    × HaveHeads gives readers tiles
    × IsJoined base (headers_of tiles) line shifts

-- the tiles join, and the thread of the tile of this number, counted from 1, could not be started
abbrev pub HasNoThread : {R : Type 0} → Giving R → Base → List R → MergeFault → Type 0
HasNoThread gives base readers refusal =
    (refusal.fault ≡ NoThread)
    × (refusal.line ≡ 0)
    × (0 < refusal.tile)
    × (refusal.tile ≤ length readers)
    × HeadersJoin gives base readers

-- Why a merge with a thread for each tile is refused, and what was written: nothing, where a thread
-- could not be started; else as of each merge that interleaves its tiles.
abbrev pub IsRefusedThreaded : {R : Type 0} → Giving R → (FeatureValue → Type 0) → Base → List R → MergeFault → Option (List ℕ) → Option (List ℕ) → Type 0
IsRefusedThreaded gives IsWanted base readers refusal old new =
    (HasNoThread gives base readers refusal × Keeps old new)
    ⊎ IsRefusedMerge (merging gives IsWanted base Interleaves readers) refusal old new

-- These bytes are a merged header and an interleaving of all wanted, moved features of the tiles,
-- each tile in its own order, every feature in its line; no tile stopped before its end.
abbrev pub IsInterleavedStream : {R : Type 0} → Giving R → (FeatureValue → Type 0) → Base → List R → List ℕ → Type 0
IsInterleavedStream gives IsWanted base readers bytes =
    (tiles : List MergedTile)
    × (line : List ℕ)
    × (out : List (List ℕ))
    × Merges gives IsWanted base readers tiles line
    × (first_refusal 1 (merged_outcomes tiles) ≡ None)
    × Interleaves (merged_texts tiles) out
    × (bytes ≡ stream line out)

-- where it is known what was there before, it is still there, and such a stream follows it
abbrev pub WroteInterleaved : {R : Type 0} → Giving R → (FeatureValue → Type 0) → Base → List R → Option (List ℕ) → Option (List ℕ) → Type 0
WroteInterleaved gives IsWanted base readers old new =
    (before : List ℕ) → old ≡ Some before
    → (written : List ℕ) × IsInterleavedStream gives IsWanted base readers written × (new ≡ Some (before ++ written))

-- What a call that filters one tile may answer, and what was written then.
use Rattle.std.specs.Prelude.{◌≡◌, ◌≢◌, ◌⊎◌, ◌==◌, if◌then◌else◌, ℕ, List, Option, Some, None, length, take, Result, Ok, Err}
use Rattle.std.specs.Io.KnownBytes.{Appends, Keeps}
use Rattle.city_json.specs.Compact.{compact}
use Rattle.byte_streams.specs.Failures.{one_more}
use Rattle.byte_streams.specs.declared.fault.Fault.{Fault}
use Rattle.byte_streams.specs.declared.fault.Fault.TheVariants.{Write}
use Rattle.city_feature.specs.Feature.{FeatureValue}
use Rattle.city_feature.specs.Header.{HeaderValue}
use Rattle.city_feature.specs.LineTexts.{no_steps}
use Rattle.tile_stream.specs.Head.{HasHead, HasNoHead, SomeTile}
use Rattle.tile_stream.specs.Held.{Held, TileComesTo}
use Rattle.tile_stream.specs.Stream.{stream}
use Rattle.tile_stream.specs.Texts.{Outcome}
use Rattle.tile_stream.specs.Tile.{TileLines}
use Rattle.tile_stream.specs.Unread.{failed_reads_after}
use Rattle.byte_streams.specs.declared.places.MergeFault.{MergeFault}
use Rattle.byte_streams.specs.declared.places.LineFault.{LineFault}

-- The tile has this header, and its wanted features, moved by nothing, come to these texts and this
-- end.
abbrev pub FiltersTo : TileLines → (FeatureValue → Type 0) → HeaderValue → List (List ℕ) → Outcome → Type 0
FiltersTo tile IsWanted header texts outcome =
    (held : Held)
    × (after : TileLines)
    × HasHead tile header held after
    × TileComesTo IsWanted no_steps held after texts outcome

-- Nothing is wrong with the tile, this many features are wanted, and their stream was written.
abbrev pub WroteStream : TileLines → (FeatureValue → Type 0) → ℕ → Option (List ℕ) → Option (List ℕ) → Type 0
WroteStream tile IsWanted count old new =
    (header : HeaderValue)
    × (texts : List (List ℕ))
    × FiltersTo tile IsWanted header texts None
    × (count ≡ length texts)
    × Appends old new (stream (compact header.value) texts)

-- A line is at fault, or memory ran out there: the tile has no head, and nothing was written; or it has
-- one, and the stream of the texts before the fault was.
abbrev pub StoppedAt : TileLines → (FeatureValue → Type 0) → LineFault → Option (List ℕ) → Option (List ℕ) → Type 0
StoppedAt tile IsWanted at old new =
    (HasNoHead tile at × Keeps old new)
    ⊎ ((header : HeaderValue)
    × (texts : List (List ℕ))
    × FiltersTo tile IsWanted header texts (Some at)
    × Appends old new (stream (compact header.value) texts))

-- the first bytes of such a stream were written, and nothing else
abbrev pub WrotePart : TileLines → (FeatureValue → Type 0) → Option (List ℕ) → Option (List ℕ) → Type 0
WrotePart tile IsWanted old new =
    (header : HeaderValue)
    × (texts : List (List ℕ))
    × (outcome : Outcome)
    × (count : ℕ)
    × FiltersTo tile IsWanted header texts outcome
    × Appends old new (take count (stream (compact header.value) texts))

-- A failed write belongs to no tile, all else to a line of the one tile.
abbrev pub IsRefusedFilter : (TileLines → Type 0) → (FeatureValue → Type 0) → Fault → ℕ → ℕ → Option (List ℕ) → Option (List ℕ) → Type 0
IsRefusedFilter MayBe IsWanted Write tile line old new =
    (tile ≡ 0) × (line ≡ 0) × SomeTile MayBe (λ lines. WrotePart lines IsWanted old new)
IsRefusedFilter MayBe IsWanted fault tile line old new =
    (tile ≡ 1)
    × SomeTile MayBe (λ lines.
    StoppedAt lines IsWanted (record { line = line; fault = fault }) old new)

-- the tile has no head, for this fault of this line
abbrev pub IsHeadless : (TileLines → Type 0) → MergeFault → Type 0
IsHeadless MayBe refusal =
    (refusal.tile ≡ 1)
    × SomeTile MayBe (λ lines.
    HasNoHead lines (record { line = refusal.line; fault = refusal.fault }))

-- Where a refusal is answered: a write or a flush failed; or nothing was written; or what was written
-- was passed on.
abbrev pub PassedOn : (TileLines → Type 0) → Type 0 → MergeFault → Option (List ℕ) → Option (List ℕ) → Type 0
PassedOn MayBe IsFlushed refusal old new =
    (refusal.fault ≡ Write) ⊎ (IsHeadless MayBe refusal × Keeps old new) ⊎ IsFlushed

-- the count of failed writes after a refusal: it grows where the refusal is that a write failed
abbrev pub failures_after_write : Fault → ℕ → ℕ
failures_after_write Write count = one_more count
failures_after_write other count = count

-- the same of a refusal by its tile, too: a failed write belongs to no tile
abbrev pub failures_after_refusal : MergeFault → ℕ → ℕ
failures_after_refusal refusal count =
    if refusal.tile == 0 then failures_after_write refusal.fault count else count

abbrev pub failures_after_merge : {X : Type 0} → Result X MergeFault → ℕ → ℕ
failures_after_merge (Ok x) count = count
failures_after_merge (Err refusal) count = failures_after_refusal refusal count

abbrev pub failures_after_filter : {X : Type 0} → Result X MergeFault → ℕ → ℕ
failures_after_filter (Ok x) count = count
failures_after_filter (Err refusal) count = failures_after_write refusal.fault count

-- What is told where what was written before a refusal is passed on: that refusal; or that a write
-- failed, where the flush did.
abbrev pub ToldAfter : MergeFault → Type 0 → MergeFault → ℕ → ℕ → Type 0
ToldAfter refusal IsFlushed told before after =
    ((told ≡ refusal) × ((refusal.fault ≡ Write) ⊎ IsFlushed) × (after ≡ before))
    ⊎ ((told ≡ record { tile = 0; line = 0; fault = Write })
    × (refusal.fault ≢ Write)
    × (after ≡ one_more before))

-- The count of failed reads before and after a call that was refused: it grows where the tile could
-- not be read, also where that is not told, since what was written could not be passed on.
abbrev pub CountsReads : Fault → ℕ → ℕ → Type 0
CountsReads fault before after =
    (after ≡ failed_reads_after fault before) ⊎ ((fault ≡ Write) × (after ≡ one_more before))

-- the count of failed reads after a call: it grows where the tile could not be read
abbrev pub failed_reads_after_filter : {X : Type 0} → Result X MergeFault → ℕ → ℕ
failed_reads_after_filter (Ok x) count = count
failed_reads_after_filter (Err refusal) count = failed_reads_after refusal.fault count

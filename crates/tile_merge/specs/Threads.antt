-- Tiles whose texts threads of their own put into rings, and what the caller took out of these.
use Rattle.std.specs.Prelude.{◌≡◌, ◌⊎◌, ◌≤◌, ◌<◌, ◌+◌, ◌++◌, ℕ, Bool, List, [], ◌∷◌, Option, Some, None, is_some, Result, IfErr, OnOk, length, map, set, flat_map}
use Rattle.std.specs.List.{AllZip, AllByRecursion, list_all}
use Rattle.byte_streams.specs.Failures.{Wrote, after_call}
use Rattle.byte_streams.specs.declared.fault.Fault.{Fault}
use Rattle.byte_streams.specs.declared.fault.Fault.TheVariants.{Write, Memory, NoThread}
use Rattle.city_feature.specs.Choice.{IsChosen}
use Rattle.city_feature.specs.declared.choices.Choice.{Choice}
use Rattle.city_grid.specs.Axes.{Triple}
use Rattle.tile_handoff.specs.declared.note.End.{End}
use Rattle.tile_handoff.specs.declared.note.Note.{Note}
use Rattle.tile_handoff.specs.declared.note.Note.TheVariants.{Line as LineNote, End as EndNote}
use Rattle.tile_merge.specs.declared.merging.ends.TileEnd.{TileEnd}
use Rattle.tile_stream.specs.Coming.{LinesMayComeTo, MayComeTo}
use Rattle.tile_merge.specs.Giving.{Giving}
use Rattle.tile_merge.specs.EndNotes.{IsToldBy, end_of, ended_so, notes_of}
use Rattle.tile_merge.specs.Feeds.{Course}
use Rattle.tile_merge.specs.Interleaves.{Interleaves}
use Rattle.tile_merge.specs.Opened.{OpenState}
use Rattle.tile_stream.specs.Stream.{stream}
use Rattle.tile_stream.specs.Texts.{Outcome}
use Rattle.tile_stream.specs.Unread.{Unread}
use Rattle.byte_streams.specs.declared.places.MergeFault.{MergeFault}

-- ---- in the thread of a tile ----

-- What the thread of a tile is given: its lines after the first, its shift, what is chosen of it, and what came before: how many texts, and
-- where the tile stops, if its first line is at fault.
pub record Fed (R : Type 0) : Type 0 where
  pub unread : Unread R
  pub shift : Triple
  pub choice : Choice
  pub begun : TileEnd

-- these come, unless the tile has stopped already
abbrev pub UnlessStopped : Outcome → (List (List ℕ) → Outcome → Type 0) → List (List ℕ) → Outcome → Type 0
UnlessStopped None Comes texts outcome = Comes texts outcome
UnlessStopped (Some at) Comes texts outcome = (texts ≡ []) × (outcome ≡ Some at)

-- these texts may come of the tile, and then this end
abbrev pub MayFeed : {R : Type 0} → Giving R → Fed R → List (List ℕ) → Outcome → Type 0
MayFeed gives fed texts outcome =
    UnlessStopped fed.begun.stop (LinesMayComeTo gives (IsChosen fed.choice) fed.shift fed.unread) texts outcome

-- Texts that come first of those that may come of the tile, and an end note, were put after these
-- notes. Where it was not asked to stop, they are all that came, and the note tells how the tile ended.
pub record IsFed {R : Type 0} (gives : Giving R) (fed : Fed R) (Unasked : Type 0) (before after : List Note) : Type 0 where
  pub texts : List (List ℕ)
  pub others : List (List ℕ)
  pub outcome : Outcome
  pub end : End
  pub comes : MayFeed gives fed (texts ++ others) outcome
  pub put : after ≡ before ++ notes_of texts end
  pub whole : Unasked → (others ≡ []) × (end ≡ end_of (ended_so (fed.begun.count + length texts) outcome))

-- so many came before, this many texts in all, and whatever may come now may have come after those that were put
pub record FedSoFar (before now : List (List ℕ) → Outcome → Type 0) (begun count : ℕ) (old new : List Note) : Type 0 where
  pub texts : List (List ℕ)
  pub back : (others : List (List ℕ)) (outcome : Outcome) → now others outcome → before (texts ++ others) outcome
  pub counted : count ≡ begun + length texts
  pub put : new ≡ old ++ map (λ text. LineNote text) texts

-- ---- in the thread of the caller ----

-- the lines among these notes
abbrev pub lines_in : List Note → List (List ℕ)
lines_in [] = []
lines_in (LineNote line ∷ notes) = line ∷ lines_in notes
lines_in (EndNote end ∷ notes) = lines_in notes

-- where the end note was taken, it is the last of the notes, and the tile ended as it tells
abbrev pub TellsEnd : Option TileEnd → List Note → Type 0
TellsEnd None notes = Unit {0}
TellsEnd (Some ended) notes =
    (front : List Note) × (note : End) × (notes ≡ front ++ EndNote note ∷ []) × IsToldBy ended note

-- what the thread of a tile was given, and the texts of its first line, which the caller has
pub record Begun (R : Type 0) : Type 0 where
  pub fed : Fed R
  pub first : List (List ℕ)

-- these texts come first, and then what else comes
abbrev pub ReadyFirst : List (List ℕ) → (List (List ℕ) → Outcome → Type 0) → List (List ℕ) → Outcome → Type 0
ReadyFirst ready Then texts outcome = (more : List (List ℕ)) × (texts ≡ ready ++ more) × Then more outcome

-- these texts may come of the tile, those of its first line before what its thread puts
abbrev pub MayComeOf : {R : Type 0} → Giving R → Begun R → List (List ℕ) → Outcome → Type 0
MayComeOf gives begun texts outcome = ReadyFirst begun.first (MayFeed gives begun.fed) texts outcome

-- what was begun with, the lines that were taken, those of the first line among them, how it ended once the end note was
-- taken, and how often the thread was asked to stop
pub record RunningState (R : Type 0) : Type 0 where
  pub begun : Begun R
  pub lines : List (List ℕ)
  pub last : Option TileEnd
  pub cancels : ℕ

-- nothing was taken yet of what the thread puts, and nothing asked
abbrev pub fresh_run : {R : Type 0} → Begun R → RunningState R
fresh_run begun = record { begun = begun; lines = begun.first; last = None; cancels = 0 }

-- The thread of the tile runs: what may come of it may come of the tile, moved by its shift, and nothing was taken yet of
-- what the thread puts, and nothing asked.
pub record IsRunOf {R : Type 0} (gives : Giving R) (choice : Choice) (tile : OpenState R) (shift : Triple) (run : RunningState R) : Type 0 where
  pub comes : (texts : List (List ℕ)) (outcome : Outcome) → MayComeOf gives run.begun texts outcome
      → MayComeTo gives (IsChosen choice) shift tile.unread texts outcome
  pub lines : run.lines ≡ run.begun.first
  pub unasked : run.cancels ≡ 0

abbrev pub begun_of : {R : Type 0} → List (RunningState R) → List (Begun R)
begun_of tiles = map (λ tile. tile.begun) tiles

-- the texts of the first lines of all tiles, one tile after another
abbrev pub first_texts : {R : Type 0} → List (RunningState R) → List (List ℕ)
first_texts tiles = flat_map (λ tile. tile.begun.first) tiles

abbrev pub lines_taken : {R : Type 0} → List (RunningState R) → List (List (List ℕ))
lines_taken tiles = map (λ tile. tile.lines) tiles

-- the end note was taken
abbrev pub is_ended : {R : Type 0} → RunningState R → Bool
is_ended tile = is_some tile.last

abbrev pub are_all_ended : {R : Type 0} → List (RunningState R) → Bool
are_all_ended tiles = list_all (λ tile. is_ended tile) tiles

-- nobody asked the threads to stop
abbrev pub AreUncancelled : {R : Type 0} → List (RunningState R) → Type 0
AreUncancelled tiles = AllByRecursion (λ tile. tile.cancels ≡ 0) tiles

-- The lines that were taken are those of the texts that come first of all that the tile may give.
-- Where nobody asked it to stop, they are all, and the end note tells how it ended.
pub record HasGiven {R : Type 0} (gives : Giving R) (tile : RunningState R) (course : Course) : Type 0 where
  pub texts : List (List ℕ)
  pub others : List (List ℕ)
  pub are : course.texts ≡ texts ++ others
  pub comes : MayComeOf gives tile.begun course.texts course.ended.stop
  pub counted : course.ended.count ≡ length course.texts
  pub lines : tile.lines ≡ texts
  pub whole : tile.cancels ≡ 0 → (others ≡ []) × (tile.last ≡ Some course.ended)

-- each of the tiles has given one of these courses
abbrev pub HaveGiven : {R : Type 0} → Giving R → List (RunningState R) → List Course → Type 0
HaveGiven gives tiles courses = AllZip (HasGiven gives) tiles courses

-- ---- what was written ----

-- The stream of the header and of all lines of these lists, each list in its own order, was written, up to the first write
-- that failed.
pub record TextsSoFar (header : List ℕ) (lists : List (List (List ℕ))) (wrote : Result (Unit {0}) Fault) (old new : Option (List ℕ)) (failures newer : ℕ) : Type 0 where
  pub out : List (List ℕ)
  pub mixes : Interleaves lists out
  pub written : Wrote wrote old new (stream header out)
  pub failed : newer ≡ after_call wrote failures
  pub fault : IfErr wrote (λ fault. fault ≡ Write)

-- among whatever lists these stand, what was written of the old one goes on to the new one
abbrev pub TextsGoOn : List (List ℕ) → List (List ℕ) → Result (Unit {0}) Fault → Result (Unit {0}) Fault → Option (List ℕ) → Option (List ℕ) → ℕ → ℕ → Type 0
TextsGoOn before now wrote result mid new failures newer =
    (lists : List (List (List ℕ))) (i : ℕ) → i < length lists → (header : List ℕ) (old : Option (List ℕ)) (count : ℕ)
    → TextsSoFar header (set lists i before) wrote old mid count failures
    → TextsSoFar header (set lists i now) result old new count newer

-- The stream of the header and of the texts that were taken, in the order in which they were, was
-- written, up to the first write that failed. Before that nobody asked a thread to stop.
pub record LinesSoFar {R : Type 0} (begun : List (Begun R)) (header : List ℕ) (tiles : List (RunningState R))
    (wrote : Result (Unit {0}) Fault) (old new : Option (List ℕ)) (failures newer : ℕ) : Type 0 where
  pub same : begun_of tiles ≡ begun
  pub out : List (List ℕ)
  pub mixes : Interleaves (lines_taken tiles) out
  pub written : Wrote wrote old new (stream header out)
  pub failed : newer ≡ after_call wrote failures
  pub fault : IfErr wrote (λ fault. fault ≡ Write)
  pub uncancelled : OnOk wrote (AreUncancelled tiles)

-- whatever lines were written before, those are written now that were taken since
abbrev pub GoesOnWriting : {R : Type 0} → List (RunningState R) → List (RunningState R) → Result (Unit {0}) Fault → Result (Unit {0}) Fault → Option (List ℕ) → Option (List ℕ) → ℕ → ℕ → Type 0
GoesOnWriting before now wrote result mid new failures newer =
    (begun : List (Begun _)) (header : List ℕ) (old : Option (List ℕ)) (count : ℕ)
    → LinesSoFar begun header before wrote old mid count failures
    → LinesSoFar begun header now result old new count newer

-- the threads may have been asked to stop, where the writing failed
abbrev pub GoesOnCancelling : {R : Type 0} → List (RunningState R) → List (RunningState R) → Result (Unit {0}) Fault → Type 0
GoesOnCancelling before now wrote =
    (begun : List (Begun _)) (header : List ℕ) (old new : Option (List ℕ)) (count newer : ℕ)
    → LinesSoFar begun header before wrote old new count newer
    → LinesSoFar begun header now wrote old new count newer

-- ---- the tiles of a merge ----

-- nothing was taken yet of what the threads put, and nothing asked
abbrev pub AreFresh : {R : Type 0} → List (RunningState R) → Type 0
AreFresh tiles = AllByRecursion (λ tile. (tile.lines ≡ tile.begun.first) × (tile.cancels ≡ 0)) tiles

-- a tile of so many has no thread, or there was not enough memory
abbrev pub IsUnstarted : ℕ → MergeFault → Type 0
IsUnstarted count refusal =
    (refusal ≡ record { tile = 0; line = 0; fault = Memory })
    ⊎ ((refusal.fault ≡ NoThread)
    × (refusal.line ≡ 0)
    × (0 < refusal.tile)
    × (refusal.tile ≤ count))

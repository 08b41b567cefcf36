-- A tile that is merged in turn: what is still to be read of it, and the notes that were read ahead.
use Rattle.std.specs.Prelude.{◌≡◌, ◌⊎◌, ◌≤◌, ◌<◌, ◌+◌, ◌++◌, ℕ, Bool, true, false, List, [], ◌∷◌, Option, Some, None, length, map, if◌then◌else◌}
use Rattle.city_feature.specs.Feature.{FeatureValue}
use Rattle.city_grid.specs.Axes.{Triple}
use Rattle.tile_handoff.specs.Queues.{Queue}
use Rattle.tile_handoff.specs.declared.note.Note.{Note}
use Rattle.tile_handoff.specs.declared.note.Note.TheVariants.{Line as LineNote, End as EndNote}
use Rattle.tile_stream.specs.Coming.{LinesMayComeTo}
use Rattle.tile_merge.specs.Giving.{Giving}
use Rattle.tile_merge.specs.EndNotes.{end_of}
use Rattle.tile_merge.specs.declared.merging.ends.TileEnd.{TileEnd}
use Rattle.tile_stream.specs.Unread.{Unread, most_left}

-- The reader, the shift, how many notes may be read ahead, those that were, how many lines were put
-- among them, and how it ended once the end note was taken.
pub record FeedState (R : Type 0) : Type 0 where
  pub unread : Unread R
  pub shift : Triple
  pub capacity : ℕ
  pub notes : Queue
  pub count : ℕ
  pub last : Option TileEnd

-- these texts, and after them the notes of a queue
abbrev pub queue_after : List (List ℕ) → Queue → Queue
queue_after texts queue = record { closed = queue.closed; left = map (λ text. LineNote text) texts ++ queue.left }

-- the texts that a tile still gives, and how it has ended then
pub record Course : Type 0 where
  pub texts : List (List ℕ)
  pub ended : TileEnd

abbrev pub course_of : List (List ℕ) → TileEnd → Course
course_of texts ended = record { texts = texts; ended = ended }

-- a text, and then what else is given
abbrev pub text_before : List ℕ → Course → Course
text_before text course = record { texts = text ∷ course.texts; ended = course.ended }

-- what follows the notes: what may be read, or once the tile was closed nothing more than its end
abbrev pub ThenComes : {R : Type 0} → Bool → Giving R → (FeatureValue → Type 0) → Triple → Unread R → ℕ → Option TileEnd → Course → Type 0
ThenComes true gives IsWanted shift unread count last course =
    (course.texts ≡ []) × (last ≡ Some course.ended)
ThenComes false gives IsWanted shift unread count last course =
    LinesMayComeTo gives IsWanted shift unread course.texts course.ended.stop
    × (course.ended.count ≡ count + length course.texts)

-- these notes come first: their texts, and the end note is the last
abbrev pub NotesCome : (Course → Type 0) → List Note → List (List ℕ) → TileEnd → Type 0
NotesCome Then [] texts ended = Then (course_of texts ended)
NotesCome Then (LineNote text ∷ notes) texts ended =
    (more : List (List ℕ)) × (texts ≡ text ∷ more) × NotesCome Then notes more ended
NotesCome Then (EndNote end ∷ notes) texts ended =
    (notes ≡ []) × (texts ≡ []) × (end ≡ end_of ended)

-- this course may be ahead of the tile
abbrev pub MayTake : {R : Type 0} → Giving R → (FeatureValue → Type 0) → FeedState R → Course → Type 0
MayTake gives IsWanted feed course =
    NotesCome (ThenComes feed.notes.closed gives IsWanted feed.shift feed.unread feed.count feed.last) feed.notes.left course.texts course.ended

-- whatever may be ahead now may, with this text in front, have been ahead before
abbrev pub TakesText : (Course → Type 0) → (Course → Type 0) → List ℕ → Type 0
TakesText before after text = (course : Course) → after course → before (text_before text course)

-- whatever may be ahead now may have been ahead before
abbrev pub TakesNone : (Course → Type 0) → (Course → Type 0) → Type 0
TakesNone before after = (course : Course) → after course → before course

abbrev pub SomeCourse : (Course → Type 0) → Type 0
SomeCourse may = (course : Course) × may course

-- lines were read: what may be ahead now may have been before, and something may
abbrev pub ReadsOn : (Course → Type 0) → (Course → Type 0) → Type 0
ReadsOn before after = TakesNone before after × SomeCourse after

-- the end note was taken
abbrev pub IsOver : {R : Type 0} → FeedState R → Type 0
IsOver feed = (feed.notes.closed ≡ true) × (feed.notes.left ≡ [])

-- a note was read ahead, or all were
abbrev pub IsAhead : {R : Type 0} → FeedState R → Type 0
IsAhead feed = (feed.notes.closed ≡ true) ⊎ (0 < length feed.notes.left)

-- there is a place for a note more
abbrev pub HasFreePlace : {R : Type 0} → FeedState R → Type 0
HasFreePlace feed = (feed.notes.closed ≡ false) × (length feed.notes.left < feed.capacity)

-- how many notes may be ahead at most
abbrev pub most_ahead : {R : Type 0} → FeedState R → ℕ
most_ahead feed = (if feed.notes.closed then 0 else 1 + most_left feed.unread) + length feed.notes.left

-- how many more lines may be read at most, the end among them
abbrev pub most_lines : {R : Type 0} → FeedState R → ℕ
most_lines feed = if feed.notes.closed then 0 else 1 + most_left feed.unread

-- one turn of a tile: it gave this text, or none since it is over
abbrev pub TakesTurn : {R : Type 0} → Giving R → (FeatureValue → Type 0) → FeedState R → FeedState R → Option (List ℕ) → Type 0
TakesTurn gives IsWanted before after (Some text) =
    TakesText (MayTake gives IsWanted before) (MayTake gives IsWanted after) text
    × SomeCourse (MayTake gives IsWanted after)
    × (most_ahead after < most_ahead before)
TakesTurn gives IsWanted before after None =
    TakesNone (MayTake gives IsWanted before) (MayTake gives IsWanted after)
    × SomeCourse (MayTake gives IsWanted after)
    × (most_ahead after ≤ most_ahead before)
    × IsOver after

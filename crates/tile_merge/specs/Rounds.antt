-- Tiles that are merged in turn, round by round.
use Rattle.std.specs.Prelude.{◌≡◌, ◌⊎◌, ◌+◌, ◌++◌, ℕ, Bool, List, [], ◌∷◌, Option, Some, length, map, take, flat_map, is_some, option_to_list}
use Rattle.std.specs.Io.KnownBytes.{Appends, Keeps}
use Rattle.std.specs.List.{AllZip, list_any}
use Rattle.city_feature.specs.Feature.{FeatureValue}
use Rattle.city_grid.specs.Axes.{Triple}
use Rattle.tile_merge.specs.Giving.{Giving}
use Rattle.tile_merge.specs.Feeds.{FeedState, Course, MayTake, SomeCourse, TakesTurn, most_ahead}
use Rattle.tile_merge.specs.Opened.{AllThree, MayGiveOpened, OpenState}
use Rattle.tile_stream.specs.Coming.{MayComeTo, SomethingComes}
use Rattle.tile_stream.specs.Stream.{with_newline}
use Rattle.tile_merge.specs.Turns.{turns}
use Rattle.tile_merge.specs.declared.merging.ends.TileEnd.{TileEnd}

-- what may be ahead may come of the tile, moved by its shift; and something may be ahead where something may come
abbrev pub IsFeedOf : {R : Type 0} → Giving R → (FeatureValue → Type 0) → OpenState R → Triple → FeedState R → Type 0
IsFeedOf gives IsWanted tile shift feed =
    ((course : Course) → MayTake gives IsWanted feed course → MayGiveOpened gives IsWanted tile shift course)
    × (SomethingComes (MayComeTo gives IsWanted shift tile.unread) → SomeCourse (MayTake gives IsWanted feed))

abbrev pub course_texts : List Course → List (List (List ℕ))
course_texts courses = map (λ course. course.texts) courses

abbrev pub course_ends : List Course → List TileEnd
course_ends courses = map (λ course. course.ended) courses

-- these courses, one of each tile, may be ahead
abbrev pub MayTakeAll : {R : Type 0} → Giving R → (FeatureValue → Type 0) → List (FeedState R) → List Course → Type 0
MayTakeAll gives IsWanted feeds courses = AllZip (MayTake gives IsWanted) feeds courses

abbrev pub SomeCourses : (List Course → Type 0) → Type 0
SomeCourses may = (courses : List Course) × may courses

-- how many notes may be ahead of all tiles at most
abbrev pub all_ahead : {R : Type 0} → List (FeedState R) → ℕ
all_ahead [] = 0
all_ahead (feed ∷ feeds) = most_ahead feed + all_ahead feeds

-- the texts that were given in a round, and their lines
abbrev pub texts_given : List (Option (List ℕ)) → List (List ℕ)
texts_given given = flat_map option_to_list given

abbrev pub lines_of : List (List ℕ) → List ℕ
lines_of texts = flat_map with_newline texts

-- a tile took its turn, and the line of its text was written, where it had one
abbrev pub WroteTurn : {R : Type 0} → Giving R → (FeatureValue → Type 0) → FeedState R → FeedState R → Bool → Option (List ℕ) → Option (List ℕ) → Type 0
WroteTurn gives IsWanted before after any old new =
    (given : Option (List ℕ))
    × TakesTurn gives IsWanted before after given
    × (any ≡ is_some given)
    × Appends old new (lines_of (option_to_list given))

-- nothing was written in the turn of a tile, or only the first bytes of the line of its text
abbrev pub WroteTurnFront : {R : Type 0} → Giving R → (FeatureValue → Type 0) → FeedState R → Option (List ℕ) → Option (List ℕ) → Type 0
WroteTurnFront gives IsWanted before old new =
    Keeps old new
    ⊎ ((text : List ℕ)
    × (after : FeedState _)
    × (count : ℕ)
    × TakesTurn gives IsWanted before after (Some text)
    × Appends old new (take count (with_newline text)))

-- each tile took its turn, and the lines were written
abbrev pub WroteRound : {R : Type 0} → Giving R → (FeatureValue → Type 0) → List (FeedState R) → List (FeedState R) → Bool → Option (List ℕ) → Option (List ℕ) → Type 0
WroteRound gives IsWanted before after any old new =
    (given : List (Option (List ℕ)))
    × AllThree (TakesTurn gives IsWanted) before after given
    × (any ≡ list_any is_some given)
    × Appends old new (lines_of (texts_given given))

-- The tiles gave these courses, which are over, and these bytes and then their texts in turn were written.
abbrev pub WroteTurns : {R : Type 0} → Giving R → (FeatureValue → Type 0) → List ℕ → List (FeedState R) → List (FeedState R) → Option (List ℕ) → Option (List ℕ) → Type 0
WroteTurns gives IsWanted front before after old new =
    (courses : List Course)
    × MayTakeAll gives IsWanted before courses
    × AllZip (λ feed ended. feed.last ≡ Some ended) after (course_ends courses)
    × Appends old new (front ++ lines_of (turns (course_texts courses)))

-- the first of such bytes were written, and nothing else
abbrev pub WroteTurnsFront : {R : Type 0} → Giving R → (FeatureValue → Type 0) → List ℕ → List (FeedState R) → Option (List ℕ) → Option (List ℕ) → Type 0
WroteTurnsFront gives IsWanted front before old new =
    (courses : List Course)
    × (count : ℕ)
    × MayTakeAll gives IsWanted before courses
    × Appends old new (take count (front ++ lines_of (turns (course_texts courses))))

-- in the midst of a round: those before this place took their turns, the others are as before
pub record RoundSoFar {R : Type 0} (gives : Giving R) (IsWanted : FeatureValue → Type 0) (before now : List (FeedState R)) (place : ℕ) (any : Bool) (old new : Option (List ℕ)) : Type 0 where
  pub first : List (FeedState R)
  pub after : List (FeedState R)
  pub rest : List (FeedState R)
  pub before_is : before ≡ first ++ rest
  pub now_is : now ≡ after ++ rest
  pub place_is : length after ≡ place
  pub round : WroteRound gives IsWanted first after any old new

-- between rounds: whatever may be ahead now may, after what was written, have been ahead at first
pub record TurnsSoFar {R : Type 0} (gives : Giving R) (IsWanted : FeatureValue → Type 0) (before now : List (FeedState R)) (old new : Option (List ℕ)) : Type 0 where
  pub out : List (List ℕ)
  pub back : (courses : List Course) → MayTakeAll gives IsWanted now courses
      → (all : List Course)
      × MayTakeAll gives IsWanted before all
      × (turns (course_texts all) ≡ out ++ turns (course_texts courses))
      × (course_ends all ≡ course_ends courses)
  pub some : SomeCourses (MayTakeAll gives IsWanted now)
  pub written : Appends old new (lines_of out)

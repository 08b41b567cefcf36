-- Tiles whose headers were taken, and of which the features are still to be read.
use Rattle.std.specs.Prelude.{◌≡◌, ◌≤◌, ◌<◌, ℕ, List, [], ◌∷◌, length}
use Rattle.city_feature.specs.Feature.{FeatureValue}
use Rattle.city_feature.specs.Header.{HeaderValue}
use Rattle.city_feature.specs.Joined.{IsJoined}
use Rattle.city_feature.specs.declared.base.Base.{Base}
use Rattle.city_grid.specs.Axes.{Triple}
use Rattle.tile_stream.specs.Coming.{MayComeTo, MayLeave}
use Rattle.tile_stream.specs.Head.{GivesHeld}
use Rattle.tile_stream.specs.Tile.{TileLines, stream_limits}
use Rattle.tile_stream.specs.TileState.{TileState, most_to_come, most_texts}
use Rattle.tile_stream.specs.Unread.{Leaves, IsOfTile}
use Rattle.tile_merge.specs.Feeds.{Course}
use Rattle.tile_merge.specs.Giving.{Giving}

-- This holds of the items of three lists, place by place.
abbrev pub AllThree : {A B C : Type 0} → (A → B → C → Type 0) → List A → List B → List C → Type 0
AllThree R [] [] [] = Unit {0}
AllThree R (x ∷ xs) (y ∷ ys) (z ∷ zs) = R x y z × AllThree R xs ys zs
AllThree R xs ys zs = ⊥

-- what is still to be read of a tile, and the number of its header's line
pub record OpenState (R : Type 0) : Type 0 where
  pub unread : TileState R
  pub line : ℕ

-- The reader's tile was opened: the header is that of the line of this number, which holds the
-- features that come first, and what may be left comes after it.
pub record IsOpened {R : Type 0} (gives : Giving R) (reader : R) (tile : OpenState R) (header : HeaderValue) : Type 0 where
  pub line : tile.line ≡ tile.unread.held.line
  pub later : tile.line < tile.unread.lines.number
  pub head : GivesHeld (IsOfTile (gives reader) stream_limits) (Leaves gives tile.unread.lines) header tile.unread.held
  pub some : (left : TileLines) × MayLeave gives tile.unread.lines left
  pub most : most_to_come tile.unread ≤ most_texts

-- what may come of a tile that was opened, moved by its shift, and how many texts that are
abbrev pub MayGiveOpened : {R : Type 0} → Giving R → (FeatureValue → Type 0) → OpenState R → Triple → Course → Type 0
MayGiveOpened gives IsWanted tile shift course =
    MayComeTo gives IsWanted shift tile.unread course.texts course.ended.stop
    × (course.ended.count ≡ length course.texts)

-- The tiles of these readers were opened, and their headers join to this line, with these shifts.
pub record AreJoined {R : Type 0} (gives : Giving R) (base : Base) (readers : List R) (tiles : List (OpenState R)) (shifts : List Triple) (line : List ℕ) : Type 0 where
  pub headers : List HeaderValue
  pub opened : AllThree (IsOpened gives) readers tiles headers
  pub joined : IsJoined base headers line shifts

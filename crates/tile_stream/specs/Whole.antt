-- Lines that stand whole among the bytes that were read.
use Rattle.std.specs.Prelude.{◌≡◌, ◌≤◌, ◌<◌, ◌-◌, ◌||◌, ℕ, Bool, false, List, [], ◌∷◌, None, length, slice_index, take}
use Rattle.city_json.specs.Bytes.{newline}
use Rattle.tile_stream.specs.Stretches.{IsStretch}
use Rattle.tile_stream.specs.Tile.{TileLines, is_blank, is_newline, nothing_left, stretch_of}
use Rattle.tile_stream.specs.Unread.{GivesLine, Unread, Leaves, stretch_before}

-- The next line, blank or not, stands whole in front, and has this length.
pub record IsWholeLine {R : Type 0} (lines : Unread R) (count : ℕ) : Type 0 where
  pub going : lines.ended ≡ None
  pub stretch : IsStretch lines.limits lines.start lines.ahead.held count

-- It is the next of what may have been left before. Where no newline ends it, nothing was left after it.
pub record IsNext {R : Type 0} (gives : R → List ℕ → Bool → Type 0) (before now : Unread R) (count : ℕ) : Type 0 where
  pub whole : IsWholeLine now count
  pub back : (left : TileLines) → Leaves gives now left → Leaves gives before left
  pub last : count ≡ length now.ahead.held
      → Leaves gives before (stretch_before (stretch_of now.number now.start now.ahead.held) (nothing_left now.number))

-- It is the next that is not blank, and bears the number of what came next before or a higher one.
pub record IsNextLine {R : Type 0} (gives : R → List ℕ → Bool → Type 0) (before now : Unread R) (count : ℕ) : Type 0 where
  pub next : IsNext gives before now count
  pub full : is_blank (take count now.ahead.held) ≡ false
  pub from : before.number ≤ now.number

-- The line of this number and these bytes was taken.
pub record TakesLine {R : Type 0} (gives : R → List ℕ → Bool → Type 0) (before after : Unread R) (number : ℕ) (bytes : List ℕ) : Type 0 where
  pub line : GivesLine (Leaves gives before) (Leaves gives after) number bytes
  pub from : before.number ≤ number
  pub later : number < after.number

-- it may stand in a blank line, or end a line
abbrev pub is_blank_or_newline : ℕ → Bool
is_blank_or_newline b = is_newline b || is_blank (b ∷ [])

-- A byte stands there that stands in no blank line, and a newline after it.
pub record IsEnded (bytes : List ℕ) (at : ℕ) : Type 0 where
  pub full : is_blank_or_newline (slice_index bytes at) ≡ false
  pub end : ℕ
  pub later : at < end
  pub within : end < length bytes
  pub ends : slice_index bytes end ≡ newline

-- A line that is not blank stands whole among these bytes, or the end of one whose front stood before them.
abbrev pub HoldsLine : List ℕ → Type 0
HoldsLine bytes = (at : ℕ) × IsEnded bytes at

-- The last byte of the lines that are not blank and stand whole is the one before this place; of none, where it is 0.
pub record EndsTexts (bytes : List ℕ) (end : ℕ) : Type 0 where
  pub is : 0 < end → IsEnded bytes (end - 1)
  pub last : (at : ℕ) → IsEnded bytes at → at < end

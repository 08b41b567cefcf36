-- What is still to come of a tile that is being read: texts, and how it ends.
use Rattle.std.specs.Prelude.{◌++◌, ℕ, Bool, List, ◌∷◌}
use Rattle.city_feature.specs.Feature.{FeatureValue}
use Rattle.city_feature.specs.FeatureLine.{GivesFeature, RefusesFeatureLine}
use Rattle.city_grid.specs.Axes.{Triple}
use Rattle.tile_stream.specs.Held.{TextsFirst}
use Rattle.tile_stream.specs.Texts.{Outcome, ComesTo}
use Rattle.tile_stream.specs.Tile.{TileLines}
use Rattle.tile_stream.specs.TileState.{TileState}
use Rattle.tile_stream.specs.Unread.{Unread, Leaves, IsFaultFrom, BeginsFrom}

-- The wanted features of these lines, moved by k, come to these texts and this end, at a line of this
-- number or a later one.
abbrev pub LeftComesTo : (FeatureValue → Type 0) → Triple → ℕ → TileLines → List (List ℕ) → Outcome → Type 0
LeftComesTo IsWanted k number left texts outcome =
    IsFaultFrom number outcome × ComesTo (GivesFeature IsWanted k) (RefusesFeatureLine k) left texts outcome

-- These lines may be left.
abbrev pub MayLeave : {R : Type 0} → (R → List ℕ → Bool → Type 0) → Unread R → TileLines → Type 0
MayLeave gives lines left = Leaves gives lines left × BeginsFrom lines.number left.lines left.fault

-- These texts may be to come, and then this end: the wanted features of the lines that may be left,
-- moved by k.
abbrev pub LinesMayComeTo : {R : Type 0} → (R → List ℕ → Bool → Type 0) → (FeatureValue → Type 0) → Triple → Unread R → List (List ℕ) → Outcome → Type 0
LinesMayComeTo gives IsWanted k lines texts outcome =
    (left : TileLines) × MayLeave gives lines left × LeftComesTo IsWanted k lines.number left texts outcome

-- The same of a tile: first the texts of the features that it holds, each moved as if its text were a
-- line, then those of the lines that may be left.
abbrev pub MayComeTo : {R : Type 0} → (R → List ℕ → Bool → Type 0) → (FeatureValue → Type 0) → Triple → TileState R → List (List ℕ) → Outcome → Type 0
MayComeTo gives IsWanted k tile texts outcome =
    (left : TileLines)
    × MayLeave gives tile.lines left
    × TextsFirst IsWanted k tile.held (LeftComesTo IsWanted k tile.lines.number left) texts outcome

-- Whatever may be to come after, may with this text in front have been to come before.
abbrev pub GivesText : (List (List ℕ) → Outcome → Type 0) → (List (List ℕ) → Outcome → Type 0) → List ℕ → Type 0
GivesText before after text =
    (texts : List (List ℕ)) (outcome : Outcome) → after texts outcome → before (text ∷ texts) outcome

-- The same of these texts.
abbrev pub GivesTexts : (List (List ℕ) → Outcome → Type 0) → (List (List ℕ) → Outcome → Type 0) → List (List ℕ) → Type 0
GivesTexts before after given =
    (texts : List (List ℕ)) (outcome : Outcome) → after texts outcome → before (given ++ texts) outcome

-- Whatever may be to come after may have been to come before.
abbrev pub ComesBack : (List (List ℕ) → Outcome → Type 0) → (List (List ℕ) → Outcome → Type 0) → Type 0
ComesBack before after = (texts : List (List ℕ)) (outcome : Outcome) → after texts outcome → before texts outcome

-- Something may be to come.
abbrev pub SomethingComes : (List (List ℕ) → Outcome → Type 0) → Type 0
SomethingComes comes = (texts : List (List ℕ)) × ((outcome : Outcome) × comes texts outcome)

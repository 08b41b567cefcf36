-- City objects that the first line of a tile holds itself: features that come before those of the lines after it.
use Rattle.std.specs.Prelude.{◌≡◌, ◌≢◌, ◌⊎◌, ◌++◌, ℕ, Bool, List, [], ◌∷◌, Any, Option, Some, None, option_to_list}
use Rattle.std.specs.List.{AllZip}
use Rattle.byte_streams.specs.declared.fault.Fault.{Fault}
use Rattle.byte_streams.specs.declared.fault.Fault.TheVariants.{VertexRange, Memory}
use Rattle.city_feature.specs.Feature.{FeatureValue, IsMovable, moved}
use Rattle.city_feature.specs.FeatureLine.{GivesFeature, RefusesFeatureLine, SpellsFeature, TellsWanted, IsTextOf}
use Rattle.city_grid.specs.Axes.{Triple}
use Rattle.tile_stream.specs.Texts.{Outcome, EndsAfterLine, ComesTo}
use Rattle.tile_stream.specs.Tile.{TileLines}

-- the features that the line of this number holds
pub record Held : Type 0 where
  pub line : ℕ
  pub features : List FeatureValue

-- their texts
pub record HeldLine : Type 0 where
  pub line : ℕ
  pub texts : List (List ℕ)

-- each text spells its feature
abbrev pub AreTextsOf : Held → HeldLine → Type 0
AreTextsOf held there = (held.line ≡ there.line) × AllZip SpellsFeature there.texts held.features

-- The features can be moved by k, and these are the texts of those that are wanted then, in order.
abbrev pub GiveTexts : (FeatureValue → Type 0) → Triple → List FeatureValue → List (List ℕ) → Type 0
GiveTexts IsWanted k [] texts = texts ≡ []
GiveTexts IsWanted k (feature ∷ others) texts =
    (given : Option (List ℕ))
    × (more : List (List ℕ))
    × IsMovable feature k
    × IsTextOf IsWanted (moved feature k) given
    × GiveTexts IsWanted k others more
    × (texts ≡ option_to_list given ++ more)

-- why they give none: one of them leaves the range when it is moved, or memory ran out
abbrev pub RefusesHeld : Triple → Fault → List FeatureValue → Type 0
RefusesHeld k VertexRange features = Any (λ feature. ¬ IsMovable feature k) features
RefusesHeld k Memory features = features ≢ []
RefusesHeld k other features = ⊥

-- the tile stops at their line
abbrev pub StopsAtHeld : Triple → Held → Outcome → Type 0
StopsAtHeld k held None = ⊥
StopsAtHeld k held (Some at) = (at.line ≡ held.line) × RefusesHeld k at.fault held.features

-- the same of their texts, each taken as the line of a feature: what they give, why they give none,
-- and that the tile stops there
abbrev pub LinesGive : (FeatureValue → Type 0) → Triple → List (List ℕ) → List (List ℕ) → Type 0
LinesGive IsWanted k [] texts = texts ≡ []
LinesGive IsWanted k (line ∷ others) texts =
    (given : Option (List ℕ))
    × (more : List (List ℕ))
    × GivesFeature IsWanted k line given
    × LinesGive IsWanted k others more
    × (texts ≡ option_to_list given ++ more)

-- which of the lines give a text
abbrev pub TellWanted : (FeatureValue → Type 0) → Triple → List (List ℕ) → List Bool → Type 0
TellWanted IsWanted k lines wanted = AllZip (TellsWanted IsWanted k) lines wanted

abbrev pub RefusesLines : Triple → Fault → List (List ℕ) → Type 0
RefusesLines k fault lines =
    ((fault ≡ Memory) × (lines ≢ [])) ⊎ Any (RefusesFeatureLine k fault) lines

abbrev pub StopsAtTexts : Triple → HeldLine → Outcome → Type 0
StopsAtTexts k there None = ⊥
StopsAtTexts k there (Some at) = (at.line ≡ there.line) × RefusesLines k at.fault there.texts

-- The tile stops at once; or all that is given comes first, and then what else comes.
abbrev pub AllFirst : (List (List ℕ) → Type 0) → (Outcome → Type 0) → (List (List ℕ) → Outcome → Type 0) → List (List ℕ) → Outcome → Type 0
AllFirst Give Stops Then texts outcome =
    ((texts ≡ []) × Stops outcome)
    ⊎ ((given : List (List ℕ))
    × (more : List (List ℕ))
    × Give given
    × Then more outcome
    × (texts ≡ given ++ more))

-- The tile stops at the line of the features; or all their texts come first, and then what else comes.
abbrev pub HeldFirst : (FeatureValue → Type 0) → Triple → Held → (List (List ℕ) → Outcome → Type 0) → List (List ℕ) → Outcome → Type 0
HeldFirst IsWanted k held Then texts outcome =
    AllFirst (GiveTexts IsWanted k held.features) (StopsAtHeld k held) Then texts outcome

abbrev pub TextsFirst : (FeatureValue → Type 0) → Triple → HeldLine → (List (List ℕ) → Outcome → Type 0) → List (List ℕ) → Outcome → Type 0
TextsFirst IsWanted k there Then texts outcome =
    AllFirst (LinesGive IsWanted k there.texts) (StopsAtTexts k there) Then texts outcome

-- The wanted features of a tile, moved by k, come to these texts and this end: those that its first
-- line holds, and then those of the lines after it.
abbrev pub TileComesTo : (FeatureValue → Type 0) → Triple → Held → TileLines → List (List ℕ) → Outcome → Type 0
TileComesTo IsWanted k held after texts outcome =
    HeldFirst IsWanted k held (λ more end.
    EndsAfterLine held.line end
    × ComesTo (GivesFeature IsWanted k) (RefusesFeatureLine k) after more end) texts outcome

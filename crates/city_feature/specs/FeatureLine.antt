-- The line of a feature in a stream: the text that it gives once the feature is moved, and why it
-- gives none.
use Rattle.std.specs.Prelude.{◌≡◌, ◌⊎◌, ℕ, Bool, List, Option, Some, None, is_some}
use Rattle.city_json.specs.Compact.{compact}
use Rattle.city_json.specs.Fits.{Fits}
use Rattle.city_json.specs.Grammar.{Spells}
use Rattle.city_json.specs.Refusals.{RefusesText}
use Rattle.city_json.specs.Tree.{Tree}
use Rattle.byte_streams.specs.declared.fault.Fault.{Fault}
use Rattle.byte_streams.specs.declared.fault.Fault.TheVariants.{VertexRange}
use Rattle.city_grid.specs.Axes.{Triple}
use Rattle.city_feature.specs.Feature.{FeatureValue, IsFeature, IsMovable, RefusesFeature, moved}

-- the line spells this feature
abbrev pub SpellsFeature : List ℕ → FeatureValue → Type 0
SpellsFeature line feature =
    Spells line feature.value × Fits feature.value × IsFeature feature.value feature.vertices

-- the compact text of a feature that is wanted, and none of another
abbrev pub IsTextOf : (FeatureValue → Type 0) → FeatureValue → Option (List ℕ) → Type 0
IsTextOf IsWanted feature (Some text) = IsWanted feature × (text ≡ compact feature.value)
IsTextOf IsWanted feature None = ¬ IsWanted feature

-- the line spells a feature, which can be moved by k; this is it, moved
abbrev pub SpellsMoved : Triple → List ℕ → FeatureValue → Type 0
SpellsMoved k line there =
    (feature : FeatureValue)
    × SpellsFeature line feature
    × IsMovable feature k
    × (there ≡ moved feature k)

-- the text that the feature of the line gives once it is moved, or none
abbrev pub GivesFeature : (FeatureValue → Type 0) → Triple → List ℕ → Option (List ℕ) → Type 0
GivesFeature IsWanted k line text =
    (there : FeatureValue) × SpellsMoved k line there × IsTextOf IsWanted there text

-- whether it gives one
abbrev pub TellsWanted : (FeatureValue → Type 0) → Triple → List ℕ → Bool → Type 0
TellsWanted IsWanted k line wanted =
    (given : Option (List ℕ)) × GivesFeature IsWanted k line given × (wanted ≡ is_some given)

-- it spells a value that is taken, and that is no feature
abbrev pub SpellsNoFeature : Fault → List ℕ → Type 0
SpellsNoFeature fault line =
    (value : Tree) × Spells line value × Fits value × RefusesFeature fault value

-- it spells a feature of which a vertex leaves the range when it is moved by k
abbrev pub LeavesRange : Triple → List ℕ → Type 0
LeavesRange k line = (feature : FeatureValue) × SpellsFeature line feature × ¬ IsMovable feature k

-- why it gives neither: it spells no value that is taken; or one that is no feature; or a feature that
-- cannot be moved so
abbrev pub RefusesFeatureLine : Triple → Fault → List ℕ → Type 0
RefusesFeatureLine k fault line =
    RefusesText fault line
    ⊎ SpellsNoFeature fault line
    ⊎ ((fault ≡ VertexRange) × LeavesRange k line)

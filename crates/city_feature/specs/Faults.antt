-- Why the compact text of a feature's line is refused.
use Rattle.std.specs.Prelude.{◌≡◌, ◌⊎◌, ℕ, List, All}
use Rattle.byte_streams.specs.declared.fault.Fault.{Fault}
use Rattle.byte_streams.specs.declared.fault.Fault.TheVariants.{VertexRange, Memory}
use Rattle.city_json.specs.CompactTexts.{IsCompactOf}
use Rattle.city_json.specs.Tree.{Tree, array, number, ItemTrees, item}
use Rattle.city_grid.specs.Axes.{IsInRange, Texts, Triple, three}
use Rattle.city_feature.specs.Feature.{IsFeature, RefusesFeature, RefusesFirst, moved_vertices}

-- an array of three numbers, however they are written
abbrev pub AreThreeNumbers : Tree → Type 0
AreThreeNumbers value = (texts : Texts) × (value ≡ three texts)

-- a number, however it is written
abbrev pub IsNumberTree : Tree → Type 0
IsNumberTree value = (n : List ℕ) × (value ≡ number n)

-- the array that has the text before begins with a number, and the array of its other items has the text after
abbrev pub BeginsWithNumber : List ℕ → List ℕ → Type 0
BeginsWithNumber before after = (items : ItemTrees) → IsCompactOf before (array items)
    → (n : List ℕ) × (others : ItemTrees) × (items ≡ item (number n) others) × IsCompactOf after (array others)

-- why a value is no feature, or one that cannot be moved by k
abbrev pub RefusesMoved : Triple → Fault → Tree → Type 0
RefusesMoved k fault value =
    RefusesFeature fault value
    ⊎ ((fault ≡ VertexRange) × ((ps : List Triple) × IsFeature value ps × ¬ All IsInRange (moved_vertices ps k)))

-- why the items of the array that a compact text spells are no vertices
abbrev pub RefusesVertices : Fault → List ℕ → Type 0
RefusesVertices fault text =
    (items : ItemTrees) → IsCompactOf text (array items) → (fault ≡ Memory) ⊎ RefusesFirst fault items

-- the text is the compact text of an array
abbrev pub IsArrayText : List ℕ → Type 0
IsArrayText text = (items : ItemTrees) × IsCompactOf text (array items)

-- What a text spells, as it is taken: an object, in its compact text, or a value of another kind.
use Rattle.std.specs.Prelude.{◌≡◌, ℕ, List}
use Rattle.city_json.specs.Compact.{compact}
use Rattle.city_json.specs.Depth.{IsDeep}
use Rattle.city_json.specs.Fits.{Fits}
use Rattle.city_json.specs.Grammar.{Spells}
use Rattle.city_json.specs.Parts.{AreParts}
use Rattle.city_json.specs.Tree.{Tree, MemberTrees, object}
use Rattle.city_json.specs.declared.compacting.places.MemberPlace.{MemberPlace}

-- The text does not nest too deeply, and spells an object that fits, whose compact text this is and whose members lie in
-- these parts of that.
abbrev pub SpellsObject : List ℕ → List ℕ → List MemberPlace → Type 0
SpellsObject text line parts = (members : MemberTrees) × Spells text (object members) × Fits (object members)
    × (¬ IsDeep text) × (line ≡ compact (object members)) × AreParts 1 parts members

-- the text does not nest too deeply, and spells a value that fits and is no object
abbrev pub SpellsOther : List ℕ → Type 0
SpellsOther text = (value : Tree) × Spells text value × Fits value × (¬ IsDeep text)
    × ((members : MemberTrees) → ¬ Spells text (object members))

-- Why a text is refused, each refusal with its cause. The order is: not UTF-8, nested too deeply, no JSON text, a
-- repeated name.
use Rattle.std.specs.Prelude.{List, ℕ, IsUtf8}
use Rattle.city_json.specs.Depth.{IsDeep}
use Rattle.city_json.specs.Fits.{IsDistinct}
use Rattle.city_json.specs.Grammar.{Spells}
use Rattle.city_json.specs.Tree.{Tree}
use Rattle.byte_streams.specs.declared.fault.Fault.{Fault}
use Rattle.byte_streams.specs.declared.fault.Fault.TheVariants.{NotUtf8, TooDeep, Syntax, DuplicateName, Memory}

-- no value is spelled
abbrev pub SpellsNone : List ℕ → Type 0
SpellsNone text = (value : Tree) → Spells text value → ⊥

-- a value is spelled in which an object has a name twice
abbrev pub SpellsRepeated : List ℕ → Type 0
SpellsRepeated text = (value : Tree) × Spells text value × ¬ IsDistinct value

-- UTF-8 that does not nest too deeply: what comes after is told by the value
abbrev pub IsShallow : List ℕ → Type 0
IsShallow text = IsUtf8 text × ¬ IsDeep text

-- the fault is one of reading, and its cause holds
abbrev pub RefusesText : Fault → List ℕ → Type 0
RefusesText NotUtf8 text = ¬ IsUtf8 text
RefusesText TooDeep text = IsUtf8 text × IsDeep text
RefusesText Syntax text = IsShallow text × SpellsNone text
RefusesText DuplicateName text = IsShallow text × SpellsRepeated text
RefusesText Memory text = IsShallow text
RefusesText other text = ⊥

-- What is found on the compact text of a feature's line, whose members lie in known parts.
use Rattle.std.specs.Prelude.{◌≡◌, ◌≢◌, ◌≤◌, ℕ, List, [], ◌∷◌, pos, All}
use Rattle.city_json.specs.Bytes.{backslash, plus}
use Rattle.city_json.specs.Compact.{compact}
use Rattle.city_json.specs.Parts.{with_value}
use Rattle.city_json.specs.Tree.{Tree, array, ItemTrees, MemberTrees, object}
use Rattle.city_json.specs.Writable.{AreWritableItems}
use Rattle.city_json.specs.declared.compacting.places.MemberPlace.{MemberPlace}
use Rattle.city_grid.specs.Axes.{Triple, triple, IsInRange}
use Rattle.city_feature.specs.Changes.{with_member}
use Rattle.city_feature.specs.Feature.{AreVertices, vertices_tree}

-- the value of the member of this name stands in this part of the line: with another text there, the line is the
-- text of an object with another value
abbrev pub IsPlaceOf : List ℕ → MemberTrees → List ℕ → MemberPlace → Type 0
IsPlaceOf name members line part =
    (new : Tree) → compact (with_member name new (object members)) ≡ with_value line part (compact new)

-- the shift after which all vertices stand where they stood
abbrev pub no_steps : Triple
no_steps = triple (pos 0) (pos 0) (pos 0)

abbrev small_z : ℕ
small_z = 122

-- a letter, a digit, a plus or another byte between these in ASCII: it stands for itself in a text
abbrev pub IsLetter : ℕ → Type 0
IsLetter c = (plus ≤ c) × (c ≤ small_z) × (c ≢ backslash)

abbrev pub AreLetters : List ℕ → Type 0
AreLetters [] = Unit {0}
AreLetters (c ∷ cs) = IsLetter c × AreLetters cs

-- the text that is written for some vertices in range
abbrev pub IsVerticesText : List ℕ → Type 0
IsVerticesText text = (ps : List Triple) × (text ≡ compact (vertices_tree ps)) × All IsInRange ps

-- the compact text of an array of these vertices, in whatever spelling of their integers
abbrev pub SpellsVertices : List ℕ → List Triple → Type 0
SpellsVertices text ps =
    (items : ItemTrees) × (text ≡ compact (array items)) × AreWritableItems items × AreVertices items ps

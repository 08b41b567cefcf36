-- Where vertices begin that are written as arrays of three whole numbers, by the brackets that close them.
use Rattle.std.specs.Prelude.{◌≡◌, ◌+◌, ◌==◌, ℕ, Bool, cond, List, [], ◌∷◌}
use Rattle.city_json.specs.Bytes.{close_bracket}
use Rattle.city_json.specs.Compact.{compact}
use Rattle.city_json.specs.Tree.{ItemTrees, array}
use Rattle.city_json.specs.Triples.{AreTriples}

abbrev pub is_close_bracket : ℕ → Bool
is_close_bracket b = b == close_bracket

-- of a text whose first byte is at `at`: where the next vertex begins, after each closing bracket and a comma
abbrev pub starts_after_closes : ℕ → List ℕ → List ℕ
starts_after_closes at [] = []
starts_after_closes at (b ∷ bs) = cond (is_close_bracket b) ((at + 2) ∷ starts_after_closes (at + 1) bs) (starts_after_closes (at + 1) bs)

-- the text is the compact text of an array of arrays of three short whole numbers each
abbrev pub IsTriplesArray : List ℕ → Type 0
IsTriplesArray text = (items : ItemTrees) × AreTriples items × (text ≡ compact (array items))

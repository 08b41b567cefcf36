-- What stands first in the text of an object.
use Rattle.std.proofs.Common.{◌≡◌, ◌∙◌, ◌++◌, ◌∷◌, [], List, None, Option, Some, ℕ, ap, false, is_some, option_map, refl}
use Rattle.city_json.proofs.Scanning.{after_white-blank}
use Rattle.city_json.specs.Bytes.{open_brace, close_brace}
use Rattle.city_json.specs.Grammar.{Spells}
use Rattle.city_json.specs.Reading.{after_byte, after_white}
use Rattle.city_json.specs.Tree.{MemberTrees, object}

-- an opening brace, after white space
pub opened : (bytes : List ℕ) (members : MemberTrees) → Spells bytes (object members)
    → (rest : List ℕ) × (after_white bytes ≡ open_brace ∷ rest)
opened bytes all (utf8, (before, inner, after, is, blank, (content, written, spells), end)) =
    let rest : List ℕ = (content ++ close_brace ∷ []) ++ after in
    let whole : bytes ≡ before ++ open_brace ∷ rest =
    is ∙ ap (λ l. before ++ (l ++ after)) written in
    (rest, ap after_white whole ∙ after_white-blank before (open_brace ∷ rest) blank refl)

-- so no object is spelled where none stands there
pub no_brace : {A : Type 0} (bytes : List ℕ) (g : A → List ℕ) (found : Option A) (rest : List ℕ)
    → rest ≡ after_white bytes → option_map g found ≡ after_byte open_brace rest → is_some found ≡ false
    → (members : MemberTrees) → ¬ Spells bytes (object members)
no_brace {A = A} bytes g found rest same is none members spells =
    let (after, begins) = opened bytes members spells in
    never found (is ∙ ap (after_byte open_brace) (same ∙ begins)) none
  where
    never : (found : Option A) → option_map g found ≡ Some (opened bytes members spells).0 → is_some found ≡ false → ⊥
    never None is none = cc
    never (Some a) is none = cc

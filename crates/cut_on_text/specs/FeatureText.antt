-- The texts around the objects and the vertices of a feature's text.
use Rattle.std.specs.Prelude.{◌≡◌, ◌++◌, ℕ, List, [], ◌∷◌, Option, codes}
use Rattle.city_json.specs.Bytes.{colon, comma, open_brace, close_brace}
use Rattle.city_json.specs.Compact.{compact_more_members, quoted}
use Rattle.city_json.specs.Tree.{Tree}
use Rattle.city_json.specs.Writable.{AreWritableMembers}
use Rattle.city_families.specs.Cut.{appearance_members}

-- what stands before the objects of the feature that the object `id` begins
abbrev pub head_text : List ℕ → List ℕ
head_text id =
    open_brace ∷ (quoted (codes "type") ++ (colon ∷ (quoted (codes "CityJSONFeature")
    ++ (comma ∷ (quoted (codes "id") ++ (colon ∷ (quoted id
    ++ (comma ∷ (quoted (codes "CityObjects") ++ (colon ∷ open_brace ∷ []))))))))))

-- what stands between them and the vertices
abbrev pub middle_text : List ℕ
middle_text = close_brace ∷ (comma ∷ (quoted (codes "vertices") ++ colon ∷ []))

-- what stands after the vertices
abbrev pub tail_text : Option Tree → List ℕ
tail_text appearance = compact_more_members (appearance_members appearance) ++ (close_brace ∷ [])

-- what stands there in features with some appearance, or with none
abbrev pub IsTail : List ℕ → Type 0
IsTail text = (appearance : Option Tree) × AreWritableMembers (appearance_members appearance) × (text ≡ tail_text appearance)

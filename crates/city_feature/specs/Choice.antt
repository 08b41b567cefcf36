-- Which features a choice selects.
use Rattle.std.specs.Prelude.{◌≡◌, ◌==◌, ℕ, List, [], Some, Any, Contains, IfSome, MatchBool, codes}
use Rattle.std.specs.List.{slice_split}
use Rattle.city_json.specs.Bytes.{comma}
use Rattle.city_json.specs.Members.{member_of}
use Rattle.city_json.specs.Tree.{Tree, string}
use Rattle.city_feature.specs.Area.{Meets}
use Rattle.city_feature.specs.Feature.{FeatureValue}
use Rattle.city_feature.specs.Shapes.{Says, member_in}
use Rattle.city_feature.specs.declared.choices.Choice.{Choice}

-- the names that stand between the commas of a text
abbrev pub names_between_commas : List ℕ → List (List ℕ)
names_between_commas text = slice_split (λ byte. byte == comma) text

-- the text is empty, two commas meet, or one leads or ends it
abbrev pub HasEmptyName : List ℕ → Type 0
HasEmptyName text = Any (λ name. name ≡ []) (names_between_commas text)

-- the text of the member `type` of the city object that the feature's `id` names
abbrev pub IsTypeOf : List ℕ → Tree → Type 0
IsTypeOf name feature =
    (id : List ℕ)
    × Says (codes "id") id feature
    × (member_in (codes "type") (member_in id (member_of (codes "CityObjects") feature))
    ≡ Some (string name))

-- the feature's type is one of these names; where it has none, it is not
abbrev pub HasType : List (List ℕ) → Tree → Type 0
HasType names feature = (name : List ℕ) × IsTypeOf name feature × Contains names name

-- what the choice asks for, the feature has
abbrev pub Matches : Choice → FeatureValue → Type 0
Matches choice feature =
    IfSome choice.types (λ types. HasType types feature.value)
    × IfSome choice.area (λ area. Meets area feature.vertices)

-- the features that match; or, where they are excluded, all others
abbrev pub IsChosen : Choice → FeatureValue → Type 0
IsChosen choice feature =
    MatchBool choice.exclude (¬ Matches choice feature) (Matches choice feature)

-- What the texts of a document's features have of their own.
use Rattle.std.specs.Prelude.{◌≡◌, ◌++◌, ℕ, List, Option, Some, Contains, length, map}
use Rattle.city_json.specs.Members.{first_named}
use Rattle.city_json.specs.Tree.{Tree, MemberTrees}
use Rattle.city_grid.specs.Axes.{Triple}
use Rattle.city_feature.specs.Feature.{FeatureValue}
use Rattle.city_families.specs.Boundaries.{IsBounded}
use Rattle.city_families.specs.CityObjects.{IsReached, roots}
use Rattle.city_families.specs.Cut.{AreFeatures}
use Rattle.cut_on_text.specs.FeatureText.{tail_text}
use Rattle.city_families.specs.Lines.{texts_of}

-- with the end that all have with this appearance they are the texts of the features, of which each object is bounded
pub record AreOwnTexts (members : MemberTrees) (appearance : Option Tree) (points : List Triple) (own : List (List ℕ)) :
    Type 0 where
  pub features : List FeatureValue
  pub texts : map (λ text. text ++ tail_text appearance) own ≡ texts_of features
  pub are : AreFeatures members appearance points features
  pub bounded : (id name : List ℕ) (value : Tree) → Contains (roots members) id → IsReached members id name
      → first_named name members ≡ Some value → IsBounded (length points) value

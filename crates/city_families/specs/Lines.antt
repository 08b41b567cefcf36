-- The texts of features (CityJSON 2.0, Text sequences and streaming with CityJSONFeature).
use Rattle.std.specs.Prelude.{ℕ, List, map}
use Rattle.city_json.specs.Compact.{compact}
use Rattle.city_feature.specs.Feature.{FeatureValue}

-- the texts of features, each the compact text of its value
abbrev pub texts_of : List FeatureValue → List (List ℕ)
texts_of features = map (λ feature. compact feature.value) features

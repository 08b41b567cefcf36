-- A stream: the header's line and the lines of the features, each followed by one newline (CityJSON
-- 2.0, Text sequences and streaming with CityJSONFeature).
use Rattle.std.specs.Prelude.{◌++◌, ℕ, List, [], ◌∷◌, flat_map}
use Rattle.city_json.specs.Bytes.{newline}

abbrev pub with_newline : List ℕ → List ℕ
with_newline line = line ++ newline ∷ []

abbrev pub stream : List ℕ → List (List ℕ) → List ℕ
stream header lines = flat_map with_newline (header ∷ lines)

-- Headers: the CityJSON object in the first line of a stream (CityJSON 2.0, CityJSON Object and
-- Text sequences and streaming with CityJSONFeature).
use Rattle.std.specs.Prelude.{◌≡◌, ◌⊎◌, Option, Some, None, codes}
use Rattle.city_json.specs.Members.{member_of}
use Rattle.city_json.specs.Tree.{Tree}
use Rattle.byte_streams.specs.declared.fault.Fault.{Fault}
use Rattle.byte_streams.specs.declared.fault.Fault.TheVariants.{NotCityJson, Version, NoTransform, Decimal, ScaleNotPositive}
use Rattle.city_grid.specs.Transform.{Grid, IsTransform, IsAboveZero, RefusesTransform}
use Rattle.city_feature.specs.Shapes.{IsObject, IsArray, IsFilledArray, IsFilledObject, IsThere, Says, WhereThere}

-- what a header is to a contract: its value, and the grid that its transform stands for
pub record HeaderValue : Type 0 where
  pub value : Tree
  pub grid : Grid

-- an object of the type `CityJSON`, and what a header may have of these members are objects and an
-- array
abbrev pub IsCityJson : Tree → Type 0
IsCityJson value =
    Says (codes "type") (codes "CityJSON") value
    × WhereThere IsObject (member_of (codes "metadata") value)
    × WhereThere IsObject (member_of (codes "extensions") value)
    × WhereThere IsObject (member_of (codes "CityObjects") value)
    × WhereThere IsArray (member_of (codes "vertices") value)

abbrev pub IsVersion2 : Tree → Type 0
IsVersion2 value = Says (codes "version") (codes "2.0") value

-- the value of the member `transform` is a transform, and its scales are above 0
abbrev pub HasGrid : Tree → Grid → Type 0
HasGrid value grid =
    (transform : Tree)
    × (member_of (codes "transform") value ≡ Some transform)
    × IsTransform transform grid
    × IsAboveZero grid.scale

abbrev pub IsHeader : Tree → Grid → Type 0
IsHeader value grid = IsCityJson value × IsVersion2 value × HasGrid value grid

-- it holds city objects or vertices
abbrev pub HoldsCity : Tree → Type 0
HoldsCity value =
    IsThere IsFilledObject (member_of (codes "CityObjects") value)
    ⊎ IsThere IsFilledArray (member_of (codes "vertices") value)

-- there is no transform, or it is refused
abbrev pub RefusesGrid : Fault → Option Tree → Type 0
RefusesGrid fault None = fault ≡ NoTransform
RefusesGrid fault (Some transform) = RefusesTransform fault transform

-- the value is of the right type and version, and its transform is at fault
abbrev pub HasBadTransform : Fault → Tree → Type 0
HasBadTransform fault value =
    IsCityJson value × IsVersion2 value × RefusesGrid fault (member_of (codes "transform") value)

-- why a value is no header: it is no CityJSON object; or it is one of another version; or its
-- transform is missing, malformed or outside the profile
abbrev pub RefusesHeader : Fault → Tree → Type 0
RefusesHeader NotCityJson value = ¬ IsCityJson value
RefusesHeader Version value = IsCityJson value × ¬ IsVersion2 value
RefusesHeader NoTransform value = HasBadTransform NoTransform value
RefusesHeader Decimal value = HasBadTransform Decimal value
RefusesHeader ScaleNotPositive value = HasBadTransform ScaleNotPositive value
RefusesHeader other value = ⊥

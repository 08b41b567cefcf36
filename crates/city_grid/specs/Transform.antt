-- Transforms (CityJSON 2.0, Transform Object): objects with the members `scale` and `translate`,
-- three numbers each.
use Rattle.std.specs.Prelude.{◌≡◌, pos, ◌<ℤ◌, Some, codes}
use Rattle.byte_streams.specs.declared.fault.Fault.{Fault}
use Rattle.byte_streams.specs.declared.fault.Fault.TheVariants.{NoTransform, Decimal, ScaleNotPositive}
use Rattle.city_json.specs.Members.{member_of}
use Rattle.city_json.specs.Tree.{Tree}
use Rattle.city_grid.specs.Axes.{Triple, Texts, three, Each}
use Rattle.city_grid.specs.Decimal.{IsUnits}

-- how long a step of the grid is, and where the grid begins, in units of 10^-24
pub record Grid : Type 0 where
  pub scale : Triple
  pub translate : Triple

-- the value has these numbers as its scale and its translation
abbrev pub HasNumbers : Tree → Texts → Texts → Type 0
HasNumbers value scale translate =
    (member_of (codes "scale") value ≡ Some (three scale))
    × (member_of (codes "translate") value ≡ Some (three translate))

-- and they have these units
abbrev pub HaveUnits : Texts → Texts → Grid → Type 0
HaveUnits scale translate grid =
    Each IsUnits scale grid.scale × Each IsUnits translate grid.translate

abbrev pub IsTransform : Tree → Grid → Type 0
IsTransform value grid =
    (scale translate : Texts) × HasNumbers value scale translate × HaveUnits scale translate grid

abbrev pub IsAboveZero : Triple → Type 0
IsAboveZero p = (pos 0 <ℤ p.x) × (pos 0 <ℤ p.y) × (pos 0 <ℤ p.z)

-- why a value is no transform: it has no such members; or they are there, but not all of the six
-- are decimals; or a scale is not above 0
abbrev pub RefusesTransform : Fault → Tree → Type 0
RefusesTransform NoTransform value = (scale translate : Texts) → ¬ HasNumbers value scale translate
RefusesTransform Decimal value =
    (scale translate : Texts)
    × HasNumbers value scale translate
    × ((grid : Grid) → ¬ HaveUnits scale translate grid)
RefusesTransform ScaleNotPositive value =
    (grid : Grid) × IsTransform value grid × ¬ IsAboveZero grid.scale
RefusesTransform other value = ⊥

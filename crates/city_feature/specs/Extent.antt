-- The extent of vertices.
use Rattle.std.specs.Prelude.{◌≡◌, ◌↔◌, ◌≤ℤ◌, ℤ, List, [], Option, Some, None, Any}
use Rattle.city_grid.specs.Axes.{Triple}
use Rattle.city_feature.specs.declared.choices.extents.Extent.{Extent}
use Rattle.city_feature.specs.declared.choices.extents.Range.{Range}

-- the range from the least to the greatest measure of the vertices, by what its ends are compared to:
-- a number is not below the least where some measure is not above the number; and so for the greatest
pub record IsRange (measure : Triple → ℤ) (vertices : List Triple) (range : Range) : Type 0 where
  pub least : (n : ℤ) → (range.least ≤ℤ n) ↔ Any (λ p. measure p ≤ℤ n) vertices
  pub greatest : (n : ℤ) → (n ≤ℤ range.greatest) ↔ Any (λ p. n ≤ℤ measure p) vertices

abbrev pub IsExtent : List Triple → Extent → Type 0
IsExtent vertices extent =
    IsRange (λ p. p.x) vertices extent.x × IsRange (λ p. p.y) vertices extent.y

-- the same while the vertices are gone through: of none there is no extent
abbrev pub IsExtentSoFar : List Triple → Option Extent → Type 0
IsExtentSoFar vertices (Some extent) = IsExtent vertices extent
IsExtentSoFar vertices None = vertices ≡ []

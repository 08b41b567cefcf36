-- Areas: rectangles in x and y, in steps of the grid, with their edges; and how an area is written.
use Rattle.std.specs.Prelude.{◌≡◌, ◌≤◌, ◌≤ℤ◌, ◌++◌, ◌∷◌, ℕ, ℤ, List, Any, unsigned_abs}
use Rattle.std.specs.Str.Parse.{signed_digits_value}
use Rattle.city_json.specs.Bytes.{comma}
use Rattle.city_json.specs.Number.{AreDigits, IsMinus}
use Rattle.city_grid.specs.Axes.{Triple}
use Rattle.byte_streams.specs.Limits.{max_steps}
use Rattle.city_feature.specs.declared.choices.area.Area.{Area}

-- a minus sign or none and one or more digits; the number that they write is at most 2^53 - 1 in size
pub record IsStepsText (text : List ℕ) (steps : ℤ) : Type 0 where
  pub minus_sign : List ℕ
  pub digits : List ℕ
  pub spelled : text ≡ minus_sign ++ digits
  pub is_minus : IsMinus minus_sign
  pub are_digits : AreDigits digits
  pub writes : steps ≡ signed_digits_value 10 text
  pub in_range : unsigned_abs steps ≤ max_steps

-- four numbers with commas between them: least x, least y, greatest x, greatest y; in an area no
-- least is above its greatest
pub record IsAreaText (text : List ℕ) (area : Area) : Type 0 where
  pub min_x : List ℕ
  pub min_y : List ℕ
  pub max_x : List ℕ
  pub max_y : List ℕ
  pub spelled : text ≡ min_x ++ comma ∷ (min_y ++ comma ∷ (max_x ++ comma ∷ max_y))
  pub writes_min_x : IsStepsText min_x area.min_x
  pub writes_min_y : IsStepsText min_y area.min_y
  pub writes_max_x : IsStepsText max_x area.max_x
  pub writes_max_y : IsStepsText max_y area.max_y

-- The extent of the vertices in x and y meets the area, if only at an edge: their least x is not
-- right of it, since some vertex is not; nor is their greatest x left of it; and so for y. Where
-- there are no vertices, there is no extent.
abbrev pub Meets : Area → List Triple → Type 0
Meets area vertices =
    Any (λ p. p.x ≤ℤ area.max_x) vertices
    × Any (λ p. area.min_x ≤ℤ p.x) vertices
    × Any (λ p. p.y ≤ℤ area.max_y) vertices
    × Any (λ p. area.min_y ≤ℤ p.y) vertices

-- Vertices (CityJSON 2.0, Transform Object): arrays of three whole numbers of steps.
use Rattle.std.specs.Prelude.{◌≡◌, ◌≢◌, ◌⊎◌, ◌<◌, ◌≤◌, ℕ, ℤ, unsigned_abs, List, [], slice_range}
use Rattle.std.specs.Fmt.{decimal, signed_decimal}
use Rattle.city_json.specs.Compact.{compact}
use Rattle.std.specs.Str.Parse.{signed_digits_value}
use Rattle.byte_streams.specs.declared.fault.Fault.{Fault}
use Rattle.byte_streams.specs.declared.fault.Fault.TheVariants.{VertexShape, VertexNotInteger, VertexRange}
use Rattle.city_json.specs.Number.{IsNumber}
use Rattle.city_json.specs.Tree.{Tree}
use Rattle.city_grid.specs.Axes.{Triple, Texts, three, Each, IsInRange}
use Rattle.byte_streams.specs.Limits.{max_steps}

-- a number written with neither a fraction nor an exponent, and what it writes; -0 is 0
abbrev pub IsInteger : List ℕ → ℤ → Type 0
IsInteger text z =
    (parts : IsNumber text)
    × (parts.fraction ≡ [])
    × (parts.exponent ≡ [])
    × (z ≡ signed_digits_value 10 text)

abbrev pub IsVertex : Tree → Triple → Type 0
IsVertex value p = (texts : Texts) × (value ≡ three texts) × Each IsInteger texts p

-- why a value is no vertex: it is no array of three numbers; or it is, but not all are written as
-- integers; or one is too large
abbrev pub RefusesVertex : Fault → Tree → Type 0
RefusesVertex VertexShape value = (texts : Texts) → value ≢ three texts
RefusesVertex VertexNotInteger value =
    (texts : Texts) × (value ≡ three texts) × ((p : Triple) → ¬ Each IsInteger texts p)
RefusesVertex VertexRange value = (p : Triple) × IsVertex value p × ¬ IsInRange p
RefusesVertex other value = ⊥

-- the array of the three integers in decimal
abbrev pub vertex_tree : Triple → Tree
vertex_tree p =
    three (record { x = signed_decimal p.x; y = signed_decimal p.y; z = signed_decimal p.z })

-- the number that was read, or another that is too large as well
abbrev pub IsCapped : ℕ → ℕ → Type 0
IsCapped value read = (read ≡ value) ⊎ ((max_steps < read) × (max_steps < value))

abbrev pub IsSameOrLarge : ℤ → ℤ → Type 0
IsSameOrLarge z read =
    (read ≡ z) ⊎ ((max_steps < unsigned_abs read) × (max_steps < unsigned_abs z))

-- a number in range, as it is written, from one place of a text up to another
abbrev pub IsShortNumber : List ℕ → ℕ → ℕ → Type 0
IsShortNumber text at end = (n : ℕ) × (slice_range text at end ≡ decimal n) × (n ≤ max_steps)

abbrev pub IsShortInteger : List ℕ → ℕ → ℕ → Type 0
IsShortInteger text at end = (z : ℤ) × (slice_range text at end ≡ signed_decimal z) × (unsigned_abs z ≤ max_steps)

-- the text that is written for some vertex in range, from one place of a text up to another
abbrev pub IsVertexText : List ℕ → ℕ → ℕ → Type 0
IsVertexText text at end = (p : Triple) × (slice_range text at end ≡ compact (vertex_tree p)) × IsInRange p

-- the compact text of an array of three integers, each as it may be written, and which vertex they are
abbrev pub SpellsVertex : List ℕ → Triple → Type 0
SpellsVertex text p = (texts : Texts) × (text ≡ compact (three texts)) × Each IsInteger texts p

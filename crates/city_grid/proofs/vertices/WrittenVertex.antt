-- The array of a vertex's integers in decimal is that vertex.
use Rattle.std.proofs.Common.{◌≤◌, suc, ap, refl, subst, false, true, [], ◌∷◌, ℤ, pos, negsuc, unsigned_abs, FitsSigned, w64, arith}
use Rattle.city_grid.proofs.ShortIntegers.{numerals}
use Rattle.std.proofs.lemmas.Fmt.{digits_value-decimal}
use Rattle.std.proofs.lemmas.Int.{ints, fits_signed_from_abs}
use Rattle.std.specs.Fmt.{decimal, signed_decimal}
use Rattle.city_json.specs.Bytes.{minus}
use Rattle.city_grid.specs.Axes.{Triple, IsInRange}
use Rattle.byte_streams.specs.Limits.{max_steps}
use Rattle.city_grid.specs.Decimal.{signed}
use Rattle.city_grid.specs.Vertex.{IsInteger, IsVertex, vertex_tree}
use Rattle.city_grid.proofs.vertices.DecimalIntegers.{decimal_is_number}
use Rattle.city_grid.proofs.vertices.IntegerTexts.{integer_from}

written_integer : (z : ℤ) → FitsSigned w64 z → IsInteger (signed_decimal z) z
unfolding decimal_is_number
written_integer (pos n) fits =
    subst (IsInteger (decimal n)) (ap (signed false) (digits_value-decimal numerals n (omega (arith, ints, fits))))
    (integer_from (decimal n) (decimal_is_number (pos n) fits) false (decimal n) []
    [] refl refl refl refl refl refl)
written_integer (negsuc n) fits =
    subst (IsInteger (minus ∷ decimal (suc n)))
    (ap (signed true) (digits_value-decimal numerals (suc n) (omega (arith, ints, fits))))
    (integer_from (minus ∷ decimal (suc n)) (decimal_is_number (negsuc n) fits) true (decimal (suc n)) []
    [] refl refl refl refl refl refl)

in_range : (z : ℤ) → unsigned_abs z ≤ max_steps → IsInteger (signed_decimal z) z
in_range z few = written_integer z (fits_signed_from_abs w64 z (omega arith))

pub written_vertex : (p : Triple) → IsInRange p → IsVertex (vertex_tree p) p × IsInRange p
written_vertex p range = (
  (
    record { x = signed_decimal p.x; y = signed_decimal p.y; z = signed_decimal p.z },
    refl,
    (in_range p.x range.0, in_range p.y range.1, in_range p.z range.2),
  ),
  range,
)

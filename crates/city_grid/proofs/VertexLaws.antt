-- What other crates use of vertices in decimal.
use Rattle.std.proofs.Common.{◌≤◌, ℤ, unsigned_abs, w64, arith}
use Rattle.std.proofs.lemmas.Int.{fits_signed_from_abs}
use Rattle.std.specs.Fmt.{signed_decimal}
use Rattle.city_json.specs.Number.{IsNumber}
use Rattle.city_json.specs.Writable.{IsWritable}
use Rattle.city_grid.specs.Axes.{Triple, Texts, Each, three, IsInRange}
use Rattle.byte_streams.specs.Limits.{max_steps}
use Rattle.city_grid.specs.Vertex.{IsInteger, IsVertex, vertex_tree}
use Rattle.city_grid.proofs.vertices.DecimalIntegers.{decimal_is_number}
use Rattle.city_grid.proofs.vertices.WrittenVertex.{written_vertex}

is_number : (z : ℤ) → unsigned_abs z ≤ max_steps → IsNumber (signed_decimal z)
is_number z few = decimal_is_number z (fits_signed_from_abs w64 z (omega arith))

pub vertex_is_read : (p : Triple) → IsInRange p → IsVertex (vertex_tree p) p
vertex_is_read p range = (written_vertex p range).0

pub vertex_is_writable : (p : Triple) → IsInRange p → IsWritable (vertex_tree p)
vertex_is_writable p range = (is_number p.x range.0, (is_number p.y range.1, (is_number p.z range.2, tt)))

pub three_are_writable : (texts : Texts) (p : Triple) → Each IsInteger texts p → IsWritable (three texts)
three_are_writable texts p each = (each.0.0, (each.1.0, (each.2.0, tt)))

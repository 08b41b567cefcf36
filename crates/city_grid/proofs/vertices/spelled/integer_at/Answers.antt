use Rattle.std.proofs.Common.{◌≡◌, ◌-ℤ◌, pos, true, false, subst, sym, to_z, of_z, w64, slice_range, arith}
use Rattle.std.proofs.lemmas.Int.{ints}
use Rattle.city_grid.specs.Decimal.{signed}
use Rattle.city_grid.specs.Vertex.{IsInteger}
use Rattle.city_grid.proofs.vertices.SpelledIntegers.{unsigned_integer, negative_integer}
use Rattle.city_grid.proofs.vertices.spelled.integer_at.Goals as goal

pub returns-then-byte_is-clause-spelled : goal.returns-then-byte_is-clause-spelled
returns-then-byte_is-clause-spelled c =
    let text = c.args.text.now in
    let at = c.args.at in
    let found = c.in_ok-found.found in
    let is = c.in_ok-found.ensures in
    let marked = c.byte_is.ensures.0 c.if-byte_is.true in
    let kept : to_z w64 (of_z w64 (pos 0 -ℤ to_z w64 found.size)) ≡ signed true found.size =
    omega (arith, ints, is.small) in
    subst (IsInteger (slice_range text at found.end)) (sym kept)
    (negative_integer text at found.end found.size marked.0 marked.1 is.onward is.small is.written)

pub returns-clause-spelled : goal.returns-clause-spelled
returns-clause-spelled c =
    let text = c.args.text.now in
    let at = c.args.at in
    let found = c.in_ok-found-2.found in
    let is = c.in_ok-found-2.ensures in
    let kept : to_z w64 found.size ≡ signed false found.size = omega (arith, ints, is.small) in
    subst (IsInteger (slice_range text at found.end)) (sym kept)
    (unsigned_integer (slice_range text at found.end) found.size is.small is.written)

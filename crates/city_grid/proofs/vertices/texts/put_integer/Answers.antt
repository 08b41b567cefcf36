use Rattle.std.proofs.Common.{◌≡◌, ap, arith, to_z, of_z, w64, unsigned_abs}
use Rattle.std.proofs.lemmas.Int.{ints}
use Rattle.city_grid.proofs.vertices.VertexTexts.{short_decimal}
use Rattle.city_grid.proofs.vertices.texts.put_integer.Goals as goal

pub write_digits-start-requires : goal.write_digits-start-requires
write_digits-start-requires c =
    let kept : to_z w64 (of_z w64 c.args.value) ≡ c.args.value = omega (arith, ints) in
    let short = short_decimal c.unsigned_abs.result
    (omega (arith, c.unsigned_abs.ensures.value, ap unsigned_abs kept, c.requires.small)) in
    (omega (arith, short, c.requires.room), c.requires.within)

pub put_byte-requires-clause-some : goal.put_byte-requires-clause-some
put_byte-requires-clause-some c =
    let kept : to_z w64 (of_z w64 c.args.value) ≡ c.args.value = omega (arith, ints) in
    let short = short_decimal c.unsigned_abs.result
    (omega (arith, c.unsigned_abs.ensures.value, ap unsigned_abs kept, c.requires.small)) in
    omega (arith, short, c.requires.room, c.write_digits-start.ensures.start)

pub returns-then-value-lt0-clause-short : goal.returns-then-value-lt0-clause-short
returns-then-value-lt0-clause-short c =
    let kept : to_z w64 (of_z w64 c.args.value) ≡ c.args.value = omega (arith, ints) in
    let short = short_decimal c.unsigned_abs.result
    (omega (arith, c.unsigned_abs.ensures.value, ap unsigned_abs kept, c.requires.small)) in
    omega (arith, short, c.requires.room, c.write_digits-start.ensures.start, c.put_byte.ensures.place)

pub returns-else-value-lt0-clause-short : goal.returns-else-value-lt0-clause-short
returns-else-value-lt0-clause-short c =
    let kept : to_z w64 (of_z w64 c.args.value) ≡ c.args.value = omega (arith, ints) in
    let short = short_decimal c.unsigned_abs.result
    (omega (arith, c.unsigned_abs.ensures.value, ap unsigned_abs kept, c.requires.small)) in
    omega (arith, short, c.requires.room, c.write_digits-start.ensures.start)

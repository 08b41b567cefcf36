use Rattle.std.proofs.Common.{◌≡◌, ◌∙◌, [], ◌∷◌, ap, sym, subst, length, drop, cond, true, false, pos, ◌-ℤ◌, to_z, of_z, w64, arith}
use Rattle.std.proofs.lemmas.Bool.Decides.{nat_tests}
use Rattle.std.proofs.lemmas.Int.{ints}
use Rattle.std.specs.Str.Parse.{digits_value}
use Rattle.city_json.specs.Bytes.{minus}
use Rattle.city_grid.specs.Decimal.{signed}
use Rattle.city_grid.specs.Vertex.{IsSameOrLarge}
use Rattle.city_grid.proofs.vertices.IntegerTexts.{integer_from, same_or_large}
use Rattle.city_grid.proofs.vertices.integers.integer.Goals as goal

pub returns-then-not-is_empty-clause-none : goal.returns-then-not-is_empty-clause-none
returns-then-not-is_empty-clause-none c = λ z integer.
    let none : length c.parts-parts.result.fraction.now ≡ 0 =
    ap length (c.parts-parts.ensures.fraction integer.0 ∙ ap (drop 1) integer.1) in
    grind (arith, nat_tests)

pub returns-then-not-is_empty-2-clause-none : goal.returns-then-not-is_empty-2-clause-none
returns-then-not-is_empty-2-clause-none c = λ z integer.
    let none : length c.parts-parts.result.exponent.now ≡ 0 =
    ap length (c.parts-parts.ensures.exponent integer.0 ∙ ap (drop 1) integer.2) in
    grind (arith, nat_tests)

pub returns-then-parts-clause-some : goal.returns-then-parts-clause-some
returns-then-parts-clause-some c =
    let parts = c.parts-parts.result in
    let are = c.parts-parts.ensures in
    let n = are.number in
    let size = c.capped_value-size in
    let value = digits_value 10 parts.whole.now in
    let sign = are.sign n ∙ ap (λ negative. cond negative (minus ∷ []) []) c.if-parts.true in
    let none : length parts.fraction.now ≡ 0 = grind (arith, nat_tests) in
    let no_more : length parts.exponent.now ≡ 0 = grind (arith, nat_tests) in
    let kept : to_z w64 (of_z w64 (pos 0 -ℤ to_z w64 c.capped_value-size.result))
    ≡ signed true c.capped_value-size.result = omega (arith, ints, size.ensures.small) in
    let integer = integer_from c.args.number.now n true parts.whole.now parts.fraction.now parts.exponent.now sign
    (are.whole n) (are.fraction n) (are.exponent n) none no_more in (
      signed true value,
      integer,
      subst (IsSameOrLarge (signed true value)) (sym kept)
          (same_or_large true value size.result size.ensures.value),
    )

pub returns-else-parts-clause-some : goal.returns-else-parts-clause-some
returns-else-parts-clause-some c =
    let parts = c.parts-parts.result in
    let are = c.parts-parts.ensures in
    let n = are.number in
    let size = c.capped_value-size in
    let value = digits_value 10 parts.whole.now in
    let sign = are.sign n ∙ ap (λ negative. cond negative (minus ∷ []) []) c.if-parts.false in
    let none : length parts.fraction.now ≡ 0 = grind (arith, nat_tests) in
    let no_more : length parts.exponent.now ≡ 0 = grind (arith, nat_tests) in
    let kept : to_z w64 c.capped_value-size.result ≡ signed false c.capped_value-size.result =
    omega (arith, ints, size.ensures.small) in
    let integer = integer_from c.args.number.now n false parts.whole.now parts.fraction.now parts.exponent.now sign
    (are.whole n) (are.fraction n) (are.exponent n) none no_more in (
      signed false value,
      integer,
      subst (IsSameOrLarge (signed false value)) (sym kept)
          (same_or_large false value size.result size.ensures.value),
    )

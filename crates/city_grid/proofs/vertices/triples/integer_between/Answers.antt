use Rattle.std.proofs.Common.{arith}
use Rattle.city_grid.proofs.ShortIntegers.{negative_here, positive_here}
use Rattle.city_grid.proofs.vertices.triples.integer_between.Goals as goal

pub returns-then-text-at-eq45 : goal.returns-then-text-at-eq45
returns-then-text-at-eq45 c = λ short.
    negative_here c.args.text.now c.args.at c.args.end c.in_ok-size.size _ _ (omega (arith, c.if-at-end.false))
    (omega arith) c.if-text-at-eq45.true c.in_ok-size.ensures c.cast_signed.ensures c.wrapping_neg.ensures short

pub returns : goal.returns
returns c = λ short.
    positive_here c.args.text.now c.args.at c.args.end c.in_ok-size-2.size _ (omega (arith, c.if-at-end.false))
    (omega arith) c.if-text-at-eq45.false c.in_ok-size-2.ensures c.cast_signed-2.ensures short

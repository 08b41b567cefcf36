use Rattle.std.proofs.Common.{◌≡◌, arith}
use Rattle.city_grid.proofs.decimals.DigitValues.{too_large, raised_more}
use Rattle.city_grid.proofs.decimals.digits.append_zeros.Goals as goal

pub returns-then-value-ge-BOUND : goal.returns-then-value-ge-BOUND
returns-then-value-ge-BOUND c =
    too_large c.args.value c.loop.value c.loop.counter c.args.by _ c.loop.invariant.2
    (omega arith) c.if-value-ge-BOUND.true

pub loop-preserved : goal.loop-preserved
loop-preserved c = (omega arith, omega arith, raised_more c.args.value c.loop.value c.loop.counter c.loop.invariant.2)

pub returns : goal.returns
returns c = let all : c.loop.counter ≡ c.args.by = omega arith in rw (← all) (omega arith, c.loop.invariant.2)

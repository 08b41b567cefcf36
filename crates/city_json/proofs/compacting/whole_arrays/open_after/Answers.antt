use Rattle.std.proofs.Common.{arith}
use Rattle.city_json.proofs.OpenParts.{stays_above, masks_open}
use Rattle.city_json.proofs.WholeArrays.{closes_of}
use Rattle.city_json.proofs.compacting.whole_arrays.open_after.Goals as goal

pub returns-then-closed-depth-clause-stays_open : goal.returns-then-closed-depth-clause-stays_open
returns-then-closed-depth-clause-stays_open c = λ bytes short is_up is_down. (
  stays_above c.args.depth bytes (omega (arith, closes_of bytes c.args.closes is_down, c.if-closed-depth.true)),
  masks_open c.args.depth bytes c.args.opens c.args.closes is_up is_down,
)

pub returns-clause-stays_open : goal.returns-clause-stays_open
returns-clause-stays_open c = λ bytes short is_up is_down. (
  c.stays_open_slowly.ensures c.if-not-stays_open_slowly.false bytes short is_up is_down,
  masks_open c.args.depth bytes c.args.opens c.args.closes is_up is_down,
)

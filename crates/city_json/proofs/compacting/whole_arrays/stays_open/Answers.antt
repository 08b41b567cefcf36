use Rattle.std.proofs.Common.{arith}
use Rattle.city_json.proofs.OpenParts.{stays_above}
use Rattle.city_json.proofs.WholeArrays.{closes_of}
use Rattle.city_json.proofs.compacting.whole_arrays.stays_open.Goals as goal

pub returns-then-depth-closed : goal.returns-then-depth-closed
returns-then-depth-closed c = λ _ bytes short is_up is_down.
    stays_above c.args.depth bytes (omega (arith, closes_of bytes c.args.closes is_down, c.if-depth-closed.true))

use Rattle.core.proofs.dec2flt.Eight.{eight_is}
use Rattle.city_grid.proofs.vertices.digits.value_of_eight.Goals as goal

pub returns : goal.returns
returns c digits eight is = eight_is digits c.args.word eight is

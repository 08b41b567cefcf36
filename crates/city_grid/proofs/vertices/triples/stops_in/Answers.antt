use Rattle.std.proofs.Common.{arith}
use Rattle.city_grid.proofs.vertices.NumberRuns.{stop_mask}
use Rattle.city_grid.proofs.vertices.triples.stops_in.Goals as goal

pub returns : goal.returns
returns c = stop_mask 32 c.args.bytes (omega arith) c.fits-bytes.0

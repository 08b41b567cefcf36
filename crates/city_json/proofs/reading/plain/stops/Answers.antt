use Rattle.city_json.proofs.PlainRuns.{stop_mask}
use Rattle.city_json.proofs.reading.plain.stops.Goals as goal

pub returns : goal.returns
returns c = stop_mask c.args.bytes c.fits-bytes.0

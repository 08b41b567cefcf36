use Rattle.city_json.proofs.ScalarRuns.{run_mask}
use Rattle.city_json.proofs.compacting.runs.run_stops.Goals as goal

pub returns : goal.returns
returns c = run_mask c.args.bytes c.fits-bytes.0

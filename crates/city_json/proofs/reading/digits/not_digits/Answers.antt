use Rattle.city_json.proofs.DigitRuns.{digit_mask}
use Rattle.city_json.proofs.reading.digits.not_digits.Goals as goal

pub returns : goal.returns
returns c = digit_mask c.args.bytes c.fits-bytes.0

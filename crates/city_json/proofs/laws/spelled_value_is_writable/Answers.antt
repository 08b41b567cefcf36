use Rattle.city_json.proofs.SpelledWritable.{spelled_writable}
use Rattle.city_json.proofs.laws.spelled_value_is_writable.Goals as goal

pub returns : goal.returns
returns c = spelled_writable

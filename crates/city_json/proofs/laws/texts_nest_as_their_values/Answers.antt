use Rattle.city_json.proofs.DepthLaws.{nests_as_value}
use Rattle.city_json.proofs.laws.texts_nest_as_their_values.Goals as goal

pub returns : goal.returns
returns c = nests_as_value

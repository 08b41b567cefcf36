use Rattle.city_json.proofs.Complete.{one_meaning}
use Rattle.city_json.proofs.laws.a_text_has_one_meaning.Goals as goal

pub returns : goal.returns
returns c = λ text a b first second. one_meaning text a b first.1 second.1

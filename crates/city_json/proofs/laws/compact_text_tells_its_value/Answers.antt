use Rattle.city_json.proofs.CompactLaws.{compact-tells}
use Rattle.city_json.proofs.laws.compact_text_tells_its_value.Goals as goal

pub returns : goal.returns
returns c = compact-tells

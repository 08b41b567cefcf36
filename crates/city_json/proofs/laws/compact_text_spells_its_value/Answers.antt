use Rattle.city_json.proofs.CompactLaws.{compact-spells}
use Rattle.city_json.proofs.laws.compact_text_spells_its_value.Goals as goal

pub returns : goal.returns
returns c = compact-spells

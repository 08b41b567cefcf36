use Rattle.city_json.proofs.CompactLaws.{compact-one_line}
use Rattle.city_json.proofs.laws.compact_text_is_one_line.Goals as goal

pub returns : goal.returns
returns c = compact-one_line

use Rattle.std.proofs.Common.{refl}
use Rattle.city_json.specs.Compact.{compact}
use Rattle.city_json.proofs.SpelledWritable.{read_of_compact}
use Rattle.city_json.proofs.laws.compact_text_is_read_as_its_value.Goals as goal

pub returns : goal.returns
returns c = λ value found writable spells. read_of_compact (compact value) value found writable refl spells

use Rattle.city_json.proofs.NumberLaws.{all_read, none_read}
use Rattle.city_json.proofs.reading.numbers.is_number.Goals as goal

pub returns-in-Some : goal.returns-in-Some
returns-in-Some c = all_read c.args.bytes.now c.in-Some.rest.now c.is_empty.result c.in-Some.ensures c.is_empty.ensures

pub returns-in-None : goal.returns-in-None
returns-in-None c = none_read c.args.bytes.now c.in-None.ensures

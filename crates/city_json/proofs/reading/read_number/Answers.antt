use Rattle.std.proofs.Common.{sym}
use Rattle.city_json.proofs.NumberLaws.{sound}
use Rattle.city_json.proofs.reading.read_number.Goals as goal

pub number-requires-2 : goal.number-requires-2
number-requires-2 g c =
    (sound c.args.bytes.now c.in-Some.text.now c.in-Some.rest.now (sym c.in-Some.ensures)).1

use Rattle.std.proofs.Common.{ap, length, arith}
use Rattle.city_json.proofs.EndedNames.{as_many}
use Rattle.city_json.proofs.reading.names.OpenNames.len.Goals as goal

pub returns : goal.returns
returns c = omega (
  arith,
  c.len.ensures,
  as_many 0 c.self.inside.ends.items c.self.inside.bytes.items,
  ap length c.self.view_is,
)

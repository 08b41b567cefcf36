use Rattle.std.proofs.Common.{ap, length, arith}
use Rattle.city_json.proofs.EndedNames.{as_many}
use Rattle.city_json.proofs.reading.names.OpenNames.name.Goals as goal

pub text_at-requires-clause-place : goal.text_at-requires-clause-place
text_at-requires-clause-place c = omega (
  arith,
  c.requires,
  ap length c.deref-2.ensures.value,
  as_many 0 c.self.inside.ends.items c.self.inside.bytes.items,
  ap length c.self.view_is,
)

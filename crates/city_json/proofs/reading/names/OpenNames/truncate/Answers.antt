use Rattle.std.proofs.Common.{◌≤◌, ◌∙◌, ap, length, take, arith}
use Rattle.city_json.specs.OpenNames.{begin_of}
use Rattle.city_json.proofs.EndedNames.{as_many, are_fewer, names_fewer}
use Rattle.city_json.proofs.reading.names.OpenNames.truncate.Goals as goal

pub begin_of-end-requires : goal.begin_of-end-requires
begin_of-end-requires c = omega (
  arith,
  c.requires,
  ap length c.deref.ensures.value,
  as_many 0 c.self.inside.ends.items c.self.inside.bytes.items,
  ap length c.self.view_is,
)

pub invariant_of-self : goal.invariant_of-self
invariant_of-self c =
    let within : c.args.base ≤ length c.self.inside.ends.items = omega (
      arith,
      c.requires,
      as_many 0 c.self.inside.ends.items c.self.inside.bytes.items,
      ap length c.self.view_is,
    ) in
    are_fewer c.args.base c.begin_of-end.result c.self.inside.ends.items c.truncate-2.new.self.items
    c.self.inside.bytes.items c.truncate.new.self.items c.self.invariant within
    (c.begin_of-end.ensures ∙ ap (begin_of 0 c.args.base) c.deref.ensures.value) c.truncate.ensures.items
    c.truncate-2.ensures.items

pub returns : goal.returns
returns c =
    let within : c.args.base ≤ length c.self.inside.ends.items = omega (
      arith,
      c.requires,
      as_many 0 c.self.inside.ends.items c.self.inside.bytes.items,
      ap length c.self.view_is,
    ) in
    names_fewer c.args.base c.begin_of-end.result c.self.inside.ends.items c.truncate-2.new.self.items
    c.self.inside.bytes.items c.truncate.new.self.items c.self.invariant within
    (c.begin_of-end.ensures ∙ ap (begin_of 0 c.args.base) c.deref.ensures.value) c.truncate.ensures.items
    c.truncate-2.ensures.items
    ∙ ap (take c.args.base) c.self.view_is

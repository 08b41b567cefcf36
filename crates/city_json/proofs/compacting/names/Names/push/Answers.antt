use Rattle.std.proofs.Common.{length, arith}
use Rattle.city_json.proofs.HeldNames.{pushed_written}
use Rattle.city_json.proofs.compacting.names.Names.push.Goals as goal

pub invariant_of-self-2 : goal.invariant_of-self-2
invariant_of-self-2 c =
    pushed_written c.self.inside.listed.items c.push.new.self.items _ c.self.inside.text_len
    (length c.self.inside.held.items) c.self.invariant c.in-Ok.ensures.items c.requires
    (omega (arith, c.if-end-self.false))

use Rattle.std.proofs.Common.{◌-◌, arith}
use Rattle.std.proofs.lemmas.Bool.{ltb-true, lt-ltb}
use Rattle.tile_stream.proofs.lines.read_ahead.ReadAhead.holds_line.Goals as goal

pub returns : goal.returns
returns g c =
    let inside = c.self.inside in
    rw (← c.self.view_is) (
      (λ is. (inside.texts - inside.at - 1, c.self.invariant.2.is (omega (arith, ltb-true inside.at inside.texts is)))),
      (λ holds. lt-ltb inside.at inside.texts (omega (arith, c.self.invariant.2.last holds.0 holds.1))),
    )

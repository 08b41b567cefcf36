use Rattle.std.proofs.Common.{refl}
use Rattle.cut_on_text.proofs.TextBounds.{object_wrong}
use Rattle.cut_on_text.proofs.on_text.bounds.boundary_fault.Goals as goal

pub returns-in-Some : goal.returns-in-Some
returns-in-Some c = (
  refl,
  λ pairs are. object_wrong c.args.vertices c.in_ok-one.one.name.now c.in_ok-one.one.value.now _ c.in-Some.ensures pairs
      (c.in_ok-one.ensures.is pairs are),
)

use Rattle.std.proofs.Common.{sym, ◌∙◌}
use Rattle.city_json.proofs.CompactLaws.{compact-tells}
use Rattle.city_json.proofs.comparing.same.Goals as goal

pub returns : goal.returns
returns c = (
  λ yes. cc,
  λ e. sym c.if-equal.false
      ∙ c.equal.ensures.1 (compact-tells _ _ c.writable.ensures c.writable-2.ensures e),
)

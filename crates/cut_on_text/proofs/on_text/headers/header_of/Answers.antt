use Rattle.std.proofs.Common.{◌∙◌, ap, subst, sym}
use Rattle.city_json.specs.Tree.{tree}
use Rattle.city_feature.specs.Header.{IsHeader}
use Rattle.cut_on_text.proofs.on_text.headers.header_of.Goals as goal

pub returns : goal.returns
returns c = (
  ap tree c.in-Ok.ensures.ok.0 ∙ c.in_ok-json.ensures,
  subst (λ json. IsHeader (tree json) c.in-Ok.found.grid) (sym c.in-Ok.ensures.ok.0) c.in-Ok.ensures.ok.1,
)

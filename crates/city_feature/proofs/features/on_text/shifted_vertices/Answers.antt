use Rattle.std.proofs.Common.{◌∙◌, ap, sym}
use Rattle.city_feature.proofs.features.LineVertices.{unmoved}
use Rattle.city_feature.specs.Feature.{moved_vertices}
use Rattle.city_feature.proofs.features.on_text.shifted_vertices.Goals as goal

pub returns-then-is_still-clause-ok : goal.returns-then-is_still-clause-ok
returns-then-is_still-clause-ok c = λ range. (
  sym (ap (moved_vertices c.args.vertices.items) (c.is_still.ensures c.if-is_still.true)
      ∙ unmoved c.args.vertices.items),
  range,
)

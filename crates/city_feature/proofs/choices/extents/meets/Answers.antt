use Rattle.std.proofs.Common.{◌∙◌, subst, arith}
use Rattle.city_feature.specs.Extent.{IsExtent}
use Rattle.city_feature.proofs.choices.Ranges.{all_vertices}
use Rattle.city_feature.proofs.choices.extents.meets.Goals as goal

pub returns : goal.returns
returns c =
    let whole = all_vertices c.args.vertices.now c.steps.result c.first-item.result
    (omega (arith, c.in-len1-up.len_at_least)) (c.steps.ensures.value ∙ c.first-item.is) in
    c.reaches.ensures c.args.vertices.now
    (subst (λ vertices. IsExtent vertices c.extent_of.result) whole c.extent_of.ensures)

use Rattle.std.proofs.Common.{refl}
use Rattle.city_json.specs.Tree.{tree, items_tree}
use Rattle.city_feature.proofs.features.FeatureVertices.{answer_refused}
use Rattle.city_feature.proofs.features.values.reader.feature_vertices.Goals as goal

pub returns-clause-refusal : goal.returns-clause-refusal
returns-clause-refusal c =
    answer_refused c.read_vertices.result (tree c.args.value.now) (items_tree c.in-Some.items.now)
    (c.if-not-has_feature_shape.ensures.0 refl) c.in-Some.ensures.some c.read_vertices.ensures.refusal

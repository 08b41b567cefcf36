use Rattle.city_feature.proofs.features.LineVertices.{chosen_none, chosen_some}
use Rattle.city_feature.proofs.features.on_text.chosen_vertices.Goals as goal

pub returns-then-not-selects_vertices-clause-ok : goal.returns-then-not-selects_vertices-clause-ok
returns-then-not-selects_vertices-clause-ok c = λ bytes is.
    chosen_none c.args.choice.now c.args.shift bytes c.args.line.now c.in_ok-vertices.vertices c.in_ok-has_type.has_type
    c.selects_vertices.result c.in_ok-vertices.ensures.is (λ there. c.in_ok-has_type.ensures.ok) c.selects_vertices.ensures
    is c.if-not-selects_vertices.true

pub returns-clause-ok : goal.returns-clause-ok
returns-clause-ok c = λ bytes is.
    chosen_some c.args.choice.now c.args.shift bytes c.args.line.now c.in_ok-vertices.vertices c.in_ok-has_type.has_type
    c.selects_vertices.result c.in_ok-vertices.ensures.is (λ there. c.in_ok-has_type.ensures.ok) c.selects_vertices.ensures
    is c.if-not-selects_vertices.false

use Rattle.std.proofs.Common.{inr, subst}
use Rattle.std.proofs.lemmas.Result.{IfErr-weaker, IfOk-weaker}
use Rattle.city_grid.specs.Vertex.{IsVertex, RefusesVertex}
use Rattle.city_feature.proofs.features.FirstFaults.{vertex_there}
use Rattle.city_feature.proofs.features.faults.vertex_of.Goals as goal

pub returns-then-found-text-clause-vertex : goal.returns-then-found-text-clause-vertex
returns-then-found-text-clause-vertex c =
    let found = c.in-Some.found in
    vertex_there c.args.text.now found.end found.vertex c.if-found-text.true c.in-Some.ensures.spelled

pub returns-clause-vertex : goal.returns-clause-vertex
returns-clause-vertex c =
    IfOk-weaker c.vertex.result _ _
    (λ p is value of. subst (λ v. IsVertex v p)
    (c.in_ok-json.ensures.printed value of.writable (of.within, of.distinct) of.is) is) c.vertex.ensures.ok

pub returns-clause-refusal : goal.returns-clause-refusal
returns-clause-refusal c =
    IfErr-weaker c.vertex.result _ _
    (λ fault is value of. inr (subst (λ v. RefusesVertex fault v)
    (c.in_ok-json.ensures.printed value of.writable (of.within, of.distinct) of.is) is)) c.vertex.ensures.refusal

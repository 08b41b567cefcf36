use Rattle.std.proofs.Common.{◌≡◌, subst}
use Rattle.std.proofs.lemmas.Result.{err_from_is_err_and}
use Rattle.city_grid.specs.Axes.{IsInRange}
use Rattle.city_grid.specs.Vertex.{IsVertex, vertex_tree}
use Rattle.city_families.specs.Chosen.{point_at}
use Rattle.cut_by_value.proofs.Answered.{no_fault, same_value}
use Rattle.cut_by_value.proofs.Assembly.{point_is}
use Rattle.cut_by_value.proofs.assembling.own_vertex.Goals as goal

pub returns-in_err-vertex-clause-fault : goal.returns-in_err-vertex-clause-fault
returns-in_err-vertex-clause-fault c =
    let p = err_from_is_err_and c.from_residual.result c.from_residual.ensures.1 in
    rw (p.1, p.2) (λ points all.
    let here = point_is c.args.values.now points c.args.at c.index-values-at.result all c.requires
    c.index-values-at.is in
    absurd (no_fault c.vertex.result c.in_err-vertex.was
    (c.vertex.ensures.only (point_at points c.args.at) here.0 here.1)))

pub returns-clause-ok : goal.returns-clause-ok
returns-clause-ok c = λ points all.
    let here = point_is c.args.values.now points c.args.at c.index-values-at.result all c.requires
    c.index-values-at.is in
    let same : c.in_ok-vertex.vertex ≡ point_at points c.args.at =
    same_value c.vertex.result c.in_ok-vertex.was
    (c.vertex.ensures.only (point_at points c.args.at) here.0 here.1) in
    rw (← same) c.in_ok-write_vertex.ensures.ok

pub returns-clause-again : goal.returns-clause-again
returns-clause-again c = λ points all.
    let here = point_is c.args.values.now points c.args.at c.index-values-at.result all c.requires
    c.index-values-at.is in
    let same : c.in_ok-vertex.vertex ≡ point_at points c.args.at =
    same_value c.vertex.result c.in_ok-vertex.was
    (c.vertex.ensures.only (point_at points c.args.at) here.0 here.1) in
    subst (λ p. IsVertex (vertex_tree p) p × IsInRange p) same c.in_ok-write_vertex.ensures.vertex

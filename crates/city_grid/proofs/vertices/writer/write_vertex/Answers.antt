use Rattle.std.proofs.Common.{subst}
use Rattle.std.proofs.lemmas.Result.{err_from_is_err_and}
use Rattle.city_grid.specs.Axes.{Triple, IsInRange}
use Rattle.city_grid.specs.Vertex.{IsVertex, vertex_tree}
use Rattle.city_grid.proofs.vertices.WrittenVertex.{written_vertex}
use Rattle.city_grid.proofs.vertices.writer.write_vertex.Goals as goal
use Rattle.city_grid.proofs.vertices.writer.write_vertex.Goals.{After-steps}

abbrev IsWritten : Triple → Type 0
IsWritten p = IsVertex (vertex_tree p) p × IsInRange p

written : (c : After-steps) → IsWritten c.args.vertex.now
written c = subst IsWritten c.steps.ensures.value (written_vertex c.steps.result c.steps.ensures.range)

pub returns-in_err-value : goal.returns-in_err-value
returns-in_err-value c =
    let p = err_from_is_err_and c.from_residual.result c.from_residual.ensures.1 in
    record {
      ok = rw p.1 tt;
      vertex = written (goal.at.returns-in_err-value c).After-steps;
      fault = rw (p.1, p.2) c.in_err-value.ensures.fault;
    }

pub returns-in_default : goal.returns-in_default
returns-in_default c =
    record {
      ok = c.in_ok-value.ensures.ok;
      vertex = written (goal.at.returns-in_default c).After-steps;
      fault = tt;
    }

pub returns-clause-vertex : goal.returns-clause-vertex
returns-clause-vertex c = written (goal.at.returns-clause-vertex c).After-steps

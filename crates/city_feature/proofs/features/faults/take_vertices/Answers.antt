use Rattle.std.proofs.lemmas.Result.{err_from_is_err_and}
use Rattle.city_json.proofs.PassedItems.{all_left}
use Rattle.city_feature.proofs.features.FirstFaults.{VerticesLeft, all_taken, fault_found, takes_begin, takes_go_on}
use Rattle.city_feature.proofs.features.faults.take_vertices.Goals as goal

pub vertices-init : goal.vertices-init
vertices-init g c = all_left (VerticesLeft (g.T.TakeVertex.has c.args.to.now)) c.args.text.now c.in-Some.items
    c.in-Some.ensures.some (takes_begin (g.T.TakeVertex.has c.args.to.now) c.requires)

pub returns-in_default-next-clause-taken : goal.returns-in_default-next-clause-taken
returns-in_default-next-clause-taken g c =
    all_taken (g.T.TakeVertex.has c.vertices.to) c.args.text.now c.vertices.items c.vertices.invariant
    c.in_default-next.ensures.none

pub vertices-preserved : goal.vertices-preserved
vertices-preserved g c =
    takes_go_on (g.T.TakeVertex.has c.vertices.to) c.args.text.now c.vertices.items c.in-Some-next.one.now
    c.next.new.self c.vertices.invariant c.in-Some-next.ensures.some (g.T.TakeVertex.has c.take.new.self)
    c.in_ok-vertex_of.field-0 c.in_ok-take.ensures c.in_ok-vertex_of.ensures.vertex c.in_ok-vertex_of.ensures.range

pub returns-in_err-vertex_of-clause-refused : goal.returns-in_err-vertex_of-clause-refused
returns-in_err-vertex_of-clause-refused g c =
    let e = err_from_is_err_and c.from_residual.result c.from_residual.ensures.1 in
    rw (e.1, e.2) (fault_found (g.T.TakeVertex.has c.vertices.to) c.args.text.now c.vertices.items
    c.in-Some-next.one.now c.next.new.self c.vertices.invariant c.in-Some-next.ensures.some
    c.in_err-vertex_of.field-0.0 c.in_err-vertex_of.ensures.refusal)

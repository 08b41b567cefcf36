use Rattle.std.proofs.Common.{◌≤◌, ◌<◌, ◌∙◌, ap, arith, length, pos}
use Rattle.std.proofs.lemmas.Result.{err_from_is_err_and}
use Rattle.city_grid.specs.Axes.{triple}
use Rattle.city_families.specs.Chosen.{point_at}
use Rattle.cut_on_text.specs.Moved.{moved_or_same}
use Rattle.cut_on_text.proofs.MovedVertices.{grown_all, grown_on, no_vertex_fault, vertex_read}
use Rattle.cut_on_text.proofs.on_text.moving.moved_vertices.Goals as goal

pub returns-in_err-vertex-clause-fault : goal.returns-in_err-vertex-clause-fault
returns-in_err-vertex-clause-fault c =
    let (points, stand, range) = c.requires in
    let at = c.loop-at.at in
    let below : c.loop-at.at < length points =
    omega (arith, c.loop-at-test.true, stand.long, c.saturating_sub-count.ensures, c.len.ensures) in
    let e = err_from_is_err_and c.from_residual-in_err-vertex.result c.from_residual-in_err-vertex.ensures.1 in
    rw (e.1, e.2) (no_vertex_fault c.vertex.result.now (point_at points at) c.in_err-vertex.field-0.0
    (range at (triple (pos 0) (pos 0) (pos 0)) below) (c.vertex.ensures ∙ stand.each at below)
    c.in_err-vertex.ensures.refusal)

pub loop-at-preserved : goal.loop-at-preserved
loop-at-preserved c = λ points stand range.
    let at = c.loop-at.at in
    let below : c.loop-at.at < length points =
    omega (arith, c.loop-at-test.true, stand.long, c.saturating_sub-count.ensures, c.len.ensures) in
    let same = vertex_read c.vertex.result.now (point_at points at) c.in_ok-vertex.vertex
    (range at (triple (pos 0) (pos 0) (pos 0)) below) (c.vertex.ensures ∙ stand.each at below)
    c.in_ok-vertex.ensures.vertex in
    grown_on c.args.shift points at c.push.new.self.text c.push.new.self.starts.items c.move_vertex.result below
    (c.move_vertex.ensures ∙ ap (moved_or_same c.args.shift) same)
    (c.in_ok-push.ensures _ (c.loop-at.invariant points stand range))

pub returns-clause-ok : goal.returns-clause-ok
returns-clause-ok c = λ points stand range.
    let past : length points ≤ c.loop-at.at =
    omega (arith, c.loop-at-test.false, stand.long, c.saturating_sub-count.ensures) in
    grown_all c.args.shift points c.loop-at.at c.loop-at.there.text c.loop-at.there.starts.items past
    (c.loop-at.invariant points stand range)

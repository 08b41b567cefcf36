use Rattle.std.proofs.Common.{◌∙◌, ◌++◌, ◌-◌, ap, take, drop, length, arith}
use Rattle.std.proofs.lemmas.Result.{IfOk-weaker}
use Rattle.city_json.specs.Compact.{compact}
use Rattle.city_feature.specs.Feature.{vertices_tree}
use Rattle.city_feature.proofs.features.TextVertices.{more_written, all_written, first_and_others}
use Rattle.city_feature.proofs.features.texts.append_vertices.Goals as goal

pub loop-vertex-preserved : goal.loop-vertex-preserved
loop-vertex-preserved c =
    let ps = take (length c.args.vertices.now - 1) (drop 1 c.args.vertices.now) in
    more_written ps c.loop-vertex.vertex-index c.vertex-item.result c.append_vertex.new.to c.loop-vertex.to
    c.append_vertex-in-loop-vertex.new.to c.loop-vertex-test.true c.vertex-item.is c.loop-vertex.invariant
    c.in_ok-append_vertex-2.ensures

pub returns : goal.returns
returns c =
    let vs = c.args.vertices.now in
    let p = c.first-item.result in
    let ps = take (length vs - 1) (drop 1 vs) in
    let whole = first_and_others vs p (omega (arith, c.in-len1-up.len_at_least)) c.first-item.is in
    IfOk-weaker c.append-2.result _ _
    (λ _ closed. all_written p ps c.loop-vertex.vertex-index c.args.to.now c.append_vertex.new.to c.loop-vertex.to
    c.append-2.new.self c.loop-vertex-test.false c.in_ok-append_vertex.ensures c.loop-vertex.invariant closed
    ∙ ap (λ qs. c.args.to.now ++ compact (vertices_tree qs)) whole)
    c.append-2.ensures.ok

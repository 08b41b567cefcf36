use Rattle.std.proofs.Common.{◌∙◌, ap, map, subst, take_all, rules, arith}
use Rattle.city_json.specs.Tree.{array, item_trees}
use Rattle.city_grid.specs.Vertex.{vertex_tree}
use Rattle.city_feature.specs.Feature.{AreReadAgain}
use Rattle.city_families.specs.Chosen.{point_at}
use Rattle.cut_by_value.proofs.Assembly.{again_more, own_more, points_map}
use Rattle.cut_by_value.proofs.assembling.own_vertices.Goals as goal

pub loop-at-preserved : goal.loop-at-preserved
loop-at-preserved c = record {
  written = λ points all. own_more points c.args.order.now c.loop-at.at-index c.loop-at.own.items _
      c.in_ok-own_vertex.field-0 (c.loop-at.invariant.written points all) (omega arith)
      (c.in_ok-own_vertex.ensures.ok points all) (search rules);
  again = λ points all. again_more points c.args.order.now c.loop-at.at-index (c.loop-at.invariant.again points all)
      (omega arith) (c.in_ok-own_vertex.ensures.again points all);
}

pub returns-clause-ok : goal.returns-clause-ok
returns-clause-ok c = λ points all.
    ap (λ trees. array (item_trees trees)) (c.loop-at.invariant.written points all
    ∙ (ap (map (λ k. vertex_tree (point_at points k)))
    (take_all c.loop-at.at-index c.args.order.now c.loop-at-test.false) ∙ points_map points c.args.order.now))

pub returns-clause-again : goal.returns-clause-again
returns-clause-again c = λ points all.
    subst (λ order. AreReadAgain (map (point_at points) order))
    (take_all c.loop-at.at-index c.args.order.now c.loop-at-test.false) (c.loop-at.invariant.again points all)

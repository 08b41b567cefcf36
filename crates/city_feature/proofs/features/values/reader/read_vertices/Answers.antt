use Rattle.std.proofs.Common.{inr, arith}
use Rattle.std.proofs.lemmas.Result.{err_from_is_err_and}
use Rattle.city_feature.proofs.features.FeatureVertices.{continued, refused_on, refused_here, all_read}
use Rattle.city_feature.proofs.features.values.reader.read_vertices.Goals as goal

pub returns-in_err-vertex-clause-refusal : goal.returns-in_err-vertex-clause-refusal
returns-in_err-vertex-clause-refusal c =
    let p = err_from_is_err_and c.from_residual-in_err-vertex.result c.from_residual-in_err-vertex.ensures.1 in
    rw (p.1, p.2) (inr (refused_here c.args.items.now c.loop-item.item-index c.item-item.result c.loop-item-test.true
    c.item-item.is _ c.in_err-vertex.ensures.refusal c.loop-item.invariant.3))

pub loop-item-preserved : goal.loop-item-preserved
loop-item-preserved c =
    let vertex = c.in_ok-vertex.ensures.ok in
    let range = c.in_ok-vertex.ensures.range in (
      omega (arith, c.push_reserved.ensures.len, c.loop-item.invariant.0),
      omega (arith, c.push_reserved.ensures.capacity, c.loop-item.invariant.1),
      continued c.args.items.now c.loop-item.item-index c.item-item.result c.loop-item-test.true c.item-item.is
          c.loop-item.vertices.items c.push_reserved.new.self.items c.in_ok-vertex.field-0 vertex range
          c.push_reserved.ensures.items c.loop-item.invariant.2,
      refused_on c.args.items.now c.loop-item.item-index c.item-item.result c.loop-item-test.true c.item-item.is
          c.in_ok-vertex.field-0 vertex range c.loop-item.invariant.3,
    )

pub returns-clause-ok : goal.returns-clause-ok
returns-clause-ok c =
    all_read c.args.items.now c.loop-item.item-index c.loop-item.vertices.items
    (omega (arith, c.loop-item-test.false)) c.loop-item.invariant.2

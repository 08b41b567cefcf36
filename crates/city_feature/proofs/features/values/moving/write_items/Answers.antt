use Rattle.std.proofs.Common.{◌∙◌, length-set, arith}
use Rattle.city_feature.proofs.features.InPlace.{written_on, again_on}
use Rattle.city_feature.proofs.features.values.moving.write_items.Goals as goal

pub loop-at-preserved : goal.loop-at-preserved
loop-at-preserved c =
    let before = c.loop-at.invariant in (
      length-set c.loop-at.items.items c.loop-at.at c.write_vertex.new.value ∙ before.0,
      written_on c.loop-at.items.items c.args.vertices.now c.loop-at.at c.write_vertex.new.value
          c.index-vertices-at.result (omega (arith, c.loop-at-test.true, before.0)) c.loop-at-test.true
          c.index-vertices-at.is c.in_ok-write_vertex.ensures.ok before.1,
      again_on c.args.vertices.now c.loop-at.at c.index-vertices-at.result c.loop-at-test.true c.index-vertices-at.is
          before.2 c.in_ok-write_vertex.ensures.vertex,
    )

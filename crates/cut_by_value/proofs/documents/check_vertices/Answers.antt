use Rattle.std.proofs.Common.{arith}
use Rattle.std.proofs.lemmas.Result.{err_from_is_err_and}
use Rattle.cut_by_value.proofs.Checking.{all_checked, goes_on, refused_here, refused_on}
use Rattle.cut_by_value.proofs.documents.check_vertices.Goals as goal

pub returns-in_err-vertex-clause-refusal : goal.returns-in_err-vertex-clause-refusal
returns-in_err-vertex-clause-refusal c =
    let p = err_from_is_err_and c.from_residual.result c.from_residual.ensures.1 in
    rw (p.1, p.2) (refused_here c.args.items.now c.loop-item.item-index c.item-item.result c.loop-item-test.true
    c.item-item.is _ c.in_err-vertex.ensures.refusal c.loop-item.invariant.1)

pub loop-item-preserved : goal.loop-item-preserved
loop-item-preserved c =
    let vertex = c.in_ok-vertex.ensures.ok in
    let range = c.in_ok-vertex.ensures.range in (
      goes_on c.args.items.now c.loop-item.item-index c.item-item.result c.loop-item-test.true c.item-item.is
          c.in_ok-vertex.field-0 vertex range c.loop-item.invariant.0,
      refused_on c.args.items.now c.loop-item.item-index c.item-item.result c.loop-item-test.true c.item-item.is
          c.in_ok-vertex.field-0 vertex range c.loop-item.invariant.1,
    )

pub returns-clause-ok : goal.returns-clause-ok
returns-clause-ok c = all_checked c.args.items.now c.loop-item.item-index (omega (arith, c.loop-item-test.false))
    c.loop-item.invariant.0

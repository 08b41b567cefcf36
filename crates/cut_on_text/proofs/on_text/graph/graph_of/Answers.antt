use Rattle.std.proofs.Common.{take_all, subst, rules}
use Rattle.cut_on_text.specs.Graphs.{HaveRows}
use Rattle.cut_on_text.proofs.TextGraphs.{rows_more}
use Rattle.cut_on_text.proofs.on_text.graph.graph_of.Goals as goal

pub loop-text-preserved : goal.loop-text-preserved
loop-text-preserved c = λ all utf8 table. rows_more all c.args.children.now _ _ c.loop-text.text-index _
    c.in_ok-row.row.items (c.loop-text.invariant all utf8 table) c.loop-text-test.true (c.in_ok-row.ensures all utf8 table)
    (search rules)

pub returns : goal.returns
returns c = λ names utf8 table. subst (λ texts. HaveRows names texts c.loop-text.graph)
    (take_all c.loop-text.text-index c.args.children.now c.loop-text-test.false) (c.loop-text.invariant names utf8 table)

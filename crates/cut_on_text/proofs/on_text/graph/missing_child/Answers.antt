use Rattle.cut_on_text.proofs.TextGraphs.{some_missing}
use Rattle.cut_on_text.proofs.on_text.graph.missing_child.Goals as goal

pub returns-in-Some-clause-is : goal.returns-in-Some-clause-is
returns-in-Some-clause-is c = λ names utf8 table. some_missing names c.args.children.now c.loop-text.text-index _
    c.loop-text-test.true (c.in-Some.ensures.is names utf8 table)

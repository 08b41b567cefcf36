use Rattle.cut_on_text.proofs.TextGraphs.{missing_here}
use Rattle.cut_on_text.proofs.on_text.graph.missing_one.Goals as goal

pub returns-in_default : goal.returns-in_default
returns-in_default c = λ names table. missing_here names c.args.named.now c.loop-name.name-index _
    c.loop-name-test.true (c.in_default.ensures names table)

use Rattle.cut_on_text.proofs.TextBounds.{part_wrong}
use Rattle.cut_on_text.proofs.TextMembers.{on_some_more}
use Rattle.cut_on_text.proofs.on_text.bounds.wrong_part.Goals as goal

pub returns : goal.returns
returns c = on_some_more c.wrong_text.result (part_wrong c.args.holder c.args.count c.args.text.now c.in_ok-held.held.now c.in_ok-part.part
    c.args.part c.in_ok-part.was c.in_ok-held.ensures.some) c.wrong_text.ensures

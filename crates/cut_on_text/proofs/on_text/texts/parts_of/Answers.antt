use Rattle.cut_on_text.proofs.TextMembers.{if_some_more}
use Rattle.cut_on_text.proofs.on_text.texts.parts_of.Goals as goal

pub returns : goal.returns
returns c = if_some_more c.in-Ok.found (λ parts has value of. has value of.writable of.within of.is)
    c.in-Ok.ensures.some

use Rattle.cut_on_text.proofs.TextMembers.{if_some_more}
use Rattle.cut_on_text.proofs.ScannedBounds.{named_there}
use Rattle.cut_on_text.proofs.on_text.bounds.text_named.Goals as goal

pub returns : goal.returns
returns c = if_some_more c.between.result (λ found lies value of named utf8 is.
    named_there c.args.text.now found.now c.args.name.now named c.in_ok-parts.parts.items _ c.in_ok-part.part
    c.in_ok-parts.ensures c.deref.ensures.value c.in_ok-part.ensures.some lies value of utf8 is) c.between.ensures.some

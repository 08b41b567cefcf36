use Rattle.std.proofs.Common.{◌∙◌, ◌++◌, ap}
use Rattle.cut_on_text.proofs.TextMembers.{on_some_more, three}
use Rattle.cut_on_text.proofs.on_text.features.append_head.Goals as goal

pub returns : goal.returns
returns c = on_some_more c.append_text-3.result
    (λ last name is. three _ _ _ _ _ _ _ c.in_ok-append_text.ensures
    (c.in_ok-append_text-2.ensures ∙ ap (λ l. c.append_text.new.line ++ l) is) last) c.append_text-3.ensures

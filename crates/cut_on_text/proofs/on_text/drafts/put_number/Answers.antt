use Rattle.std.proofs.Common.{◌∙◌, ◌<◌, ◌++◌, ◌∷◌, ap, arith, get_or, ◌-◌}
use Rattle.std.specs.Fmt.{decimal}
use Rattle.city_families.proofs.CopiedTexts.{byte_shown}
use Rattle.cut_on_text.proofs.TextMembers.{on_some_more}
use Rattle.cut_on_text.proofs.on_text.drafts.put_number.Goals as goal

pub returns : goal.returns
returns c = on_some_more c.append_number.result (λ appended.
    let some : c.args.draft.now.from < c.args.at = omega (arith, c.if-draft-at.false) in
    appended ∙ (ap (λ l. l ++ get_or c.args.text.now (c.args.at - 1) 0 ∷ decimal c.args.number) c.in_ok-put_front.ensures
    ∙ byte_shown c.args.draft.now.line c.args.text.now (decimal c.args.number) c.args.draft.now.from c.args.at some
    c.requires)) c.append_number.ensures

use Rattle.std.proofs.Common.{◌≡◌, ◌∙◌, ◌++◌, ap, arith, slice_index}
use Rattle.std.proofs.lemmas.List.{get_or_default}
use Rattle.std.specs.Fmt.{decimal}
use Rattle.city_json.specs.Compacting.{shown}
use Rattle.cut_on_text.proofs.CopiedLeaves.{copies_leaf}
use Rattle.cut_on_text.proofs.TextMembers.{on_some_more}
use Rattle.cut_on_text.proofs.on_text.drafts.NumberingLabels.label.Goals as goal

pub returns-clause-labelled : goal.returns-clause-labelled
returns-clause-labelled c = on_some_more c.put_number.result (λ line.
    let k = c.args.vertex in
    let number : c.index.result.now ≡ slice_index c.note.new.self.table.items k =
    c.index.ensures ∙ get_or_default c.note.new.self.table.items k c.index.result.now 0
    (omega (arith, c.in-Ok.ensures.long, c.requires.known)) in
    copies_leaf _ _ _ _ _ _ k c.requires.known (omega (arith, c.args.self.now.table.small)) c.in-Ok.ensures.kept
    c.in-Ok.ensures.has c.in-Ok.ensures.ok (line
    ∙ ap (λ n. shown c.args.draft.now.line c.args.text.now c.args.draft.now.from c.args.at ++ decimal n) number))
    c.put_number.ensures

use Rattle.std.proofs.Common.{◌∙◌, ap, length, sym, take}
use Rattle.cut_on_text.proofs.TextObjects.{geometries_numbered}
use Rattle.cut_on_text.proofs.on_text.objects.number_geometries.Goals as goal

pub returns-clause-made : goal.returns-clause-made
returns-clause-made c = λ value of.
    let longer = c.append_member.new.copier.draft.line in
    let all = geometries_numbered (length c.args.copier.now.labels.table.items) c.args.text.now c.args.held.now
    c.args.copier.now.labels c.args.copier.now.draft.line c.append_member.new.copier.labels longer c.requires
    c.in_ok-append_member.ensures.made value of in
    (c.truncate.ensures ∙ (ap (λ l. take (length l) longer) c.items-len.ensures ∙ sym all.0), all.1)

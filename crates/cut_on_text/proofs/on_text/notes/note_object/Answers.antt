use Rattle.std.proofs.Common.{◌≡◌, ◌∙◌, ap, arith, length}
use Rattle.cut_on_text.specs.Holders.{split_by}
use Rattle.cut_on_text.proofs.NotedObjects.{object_noted}
use Rattle.cut_on_text.proofs.TextObjects.{object_walked}
use Rattle.cut_on_text.proofs.on_text.notes.note_object.Goals as goal

pub returns-clause-made : goal.returns-clause-made
returns-clause-made c =
    let before : c.len-before.result ≡ length c.args.copier.now.labels.leaves.items =
    omega (arith, c.len-before.ensures, c.args.copier.now.labels.leaves.ok) in
    let after : c.len-after.result ≡ length c.append_member.new.copier.labels.leaves.items =
    omega (arith, c.len-after.ensures, c.append_member.new.copier.labels.leaves.ok) in
    let walked = object_walked c.first-first.result c.other-last.result c.args.copier.now.labels.count _ c.args.text.now c.args.held.now
    c.part.result c.part-2.result c.in_ok-middle.middle c.in_ok-end.end c.in_ok-back.back.now c.args.copier.now.labels
    c.args.copier.now.draft.line c.append_member.new.copier.labels c.append_member.new.copier.draft.line c.append_member-2.new.copier.labels
    c.append_member-2.new.copier.draft.line c.append_text.new.line c.requires c.other-last.ensures c.part.ensures
    c.part-2.ensures c.in_ok-middle.ensures.count c.in_ok-middle.ensures.end c.in_ok-end.ensures.end
    c.in_ok-middle.ensures.made c.in_ok-end.ensures.made c.in_ok-end.ensures.ordered c.in_ok-back.ensures.some
    c.in_ok-append_text.ensures in
    object_noted c.first-first.result c.args.copier.now.labels.count c.args.text.now c.args.held.now c.part.result c.args.copier.now.labels
    c.args.copier.now.draft.line c.append_member.new.copier.labels c.append_member.new.copier.draft.line c.append_member-2.new.copier.labels
    c.append_text.new.line c.split.result c.requires c.part.ensures c.in_ok-middle.ensures.made
    (c.split.ensures ∙ (ap (λ n. split_by c.first-first.result n c.len-after.result) before
    ∙ ap (split_by c.first-first.result (length c.args.copier.now.labels.leaves.items)) after)) walked

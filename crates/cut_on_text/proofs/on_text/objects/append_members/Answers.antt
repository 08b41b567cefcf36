use Rattle.cut_on_text.proofs.TextMembers.{on_some_more}
use Rattle.cut_on_text.proofs.TextObjects.{object_walked}
use Rattle.cut_on_text.proofs.on_text.objects.append_members.Goals as goal

pub returns-clause-made : goal.returns-clause-made
returns-clause-made g c = on_some_more c.append_text.result (object_walked c.args.first c.other-last.result
    (g.L.Labels.count c.args.copier.now.labels) _ c.args.text.now c.args.held.now c.part.result c.part-2.result
    c.in_ok-middle.middle c.in_ok-end.end c.in_ok-back.back.now c.args.copier.now.labels c.args.copier.now.draft.line
    c.append_member.new.copier.labels c.append_member.new.copier.draft.line c.append_member-2.new.copier.labels
    c.append_member-2.new.copier.draft.line c.append_text.new.line c.requires c.other-last.ensures c.part.ensures
    c.part-2.ensures c.in_ok-middle.ensures.count c.in_ok-middle.ensures.end c.in_ok-end.ensures.end
    c.in_ok-middle.ensures.made c.in_ok-end.ensures.made c.in_ok-end.ensures.ordered c.in_ok-back.ensures.some)
    c.append_text.ensures

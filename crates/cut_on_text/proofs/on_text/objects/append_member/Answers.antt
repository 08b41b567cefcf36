use Rattle.cut_on_text.proofs.TextObjects.{none_made, one_made}
use Rattle.cut_on_text.proofs.on_text.objects.append_member.Goals as goal

pub returns-in_default-clause-made : goal.returns-in_default-clause-made
returns-in_default-clause-made g c = rw c.in_default.is (none_made c.args.text.now c.args.holder
    (g.L.Labels.count c.args.copier.now.labels) c.args.from c.args.copier.now.labels c.args.copier.now.draft.line)

pub returns-clause-made : goal.returns-clause-made
returns-clause-made g c = rw c.in-Some.is (one_made c.args.text.now c.args.holder (g.L.Labels.count c.args.copier.now.labels)
    c.args.from c.in-Some.part c.in_ok-held.held.now c.in_ok-front.front.now c.args.copier.now.labels c.args.copier.now.draft.line
    _ c.append_held.new.copier.labels c.append_held.new.copier.draft.line c.in_ok-held.ensures.some c.in_ok-front.ensures.some
    c.in_ok-append_text.ensures c.in_ok-append_held.ensures.made)

use Rattle.std.proofs.Common.{length}
use Rattle.cut_on_text.proofs.TextMembers.{on_some_more}
use Rattle.cut_on_text.proofs.TextObjects.{object_in_order, object_out_of_order}
use Rattle.cut_on_text.proofs.on_text.objects.append_object.Goals as goal

pub returns-in-Geometry-clause-made : goal.returns-in-Geometry-clause-made
returns-in-Geometry-clause-made c = on_some_more c.append_members.result (λ made value of.
    object_in_order (length c.args.copier.now.labels.table.items) c.args.copier.now.labels c.args.copier.now.draft.line
    c.append_members.new.copier.labels c.append_members.new.copier.draft.line value (made value of)) c.append_members.ensures.made

pub returns-in_ok-number_geometries-in-Address-clause-made : goal.returns-in_ok-number_geometries-in-Address-clause-made
returns-in_ok-number_geometries-in-Address-clause-made c = on_some_more c.append_members-in-Address.result
    (λ made value of.
    let before = c.in_ok-number_geometries-in-Address.ensures.made value of in
    object_out_of_order (length c.args.copier.now.labels.table.items) _ c.args.copier.now.labels.table.items
    c.args.copier.now.labels.order.items c.args.copier.now.draft.line _ _ c.append_members-in-Address.new.copier.labels
    c.append_members-in-Address.new.copier.draft.line value c.in_ok-number_geometries-in-Address.ensures.long before.0 before.1
    (made value of)) c.append_members-in-Address.ensures.made

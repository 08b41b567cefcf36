use Rattle.std.proofs.Common.{◌≡◌, ◌<◌, ◌^◌, ap, map, subst, arith, length}
use Rattle.city_families.specs.Chosen.{named_at, point_at}
use Rattle.cut_on_text.proofs.TextFeatures.{ObjectsMade, feature_made}
use Rattle.cut_on_text.proofs.TextMembers.{on_some_more}
use Rattle.cut_on_text.proofs.on_text.features.append_feature.Goals as goal

pub returns-clause-made : goal.returns-clause-made
returns-clause-made c = on_some_more c.append_rest.result (λ rest pairs appearance points stand are family.
    let table = c.args.copier.now.labels.table.items in
    let table' = c.append_objects.new.copier.labels.table.items in
    let order' = c.append_objects.new.copier.labels.order.items in
    let head_line = c.append_head.new.line in
    let line₂ = c.append_objects.new.copier.draft.line in
    let small : length c.append_objects.new.copier.labels.table.items < 2 ^ 64 =
    omega (arith, c.append_objects.new.copier.labels.table.small) in
    let made = subst (λ l. ObjectsMade (length c.args.copier.now.labels.table.items) c.args.copier.now.labels.table.items l
    c.append_head.new.line c.append_objects.new.copier.labels.table.items c.append_objects.new.copier.labels.order.items
    c.append_objects.new.copier.draft.line (map (named_at pairs) c.args.family.now.places.items)) c.clear.ensures.items
    (subst (λ l. ObjectsMade (length c.args.copier.now.labels.table.items) c.args.copier.now.labels.table.items
    c.clear.new.self.items c.append_head.new.line c.append_objects.new.copier.labels.table.items
    c.append_objects.new.copier.labels.order.items c.append_objects.new.copier.draft.line (map (named_at pairs) l))
    c.deref.ensures.value (c.in_ok-append_objects.ensures.made pairs are)) in
    let numbers = c.deref-2.result.now in
    let long : length c.args.copier.now.labels.table.items ≡ length points = omega (arith, c.requires, stand.long) in
    let head = c.in_ok-append_head.ensures (named_at pairs c.args.family.now.root).0 (c.in_ok-id.ensures pairs are) in
    feature_made pairs points c.args.family.now.root c.args.family.now.places.items table table' order' head_line line₂
    family are.0.distinct long small made appearance c.args.copier.now.draft.line _ (map (point_at points) numbers) head
    (ap (map (point_at points)) c.deref-2.ensures.value) (rest points stand)) c.append_rest.ensures

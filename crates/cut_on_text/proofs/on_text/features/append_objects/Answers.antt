use Rattle.std.proofs.Common.{◌-◌, map, subst, take, drop, length, get_or}
use Rattle.city_families.specs.Chosen.{named_at}
use Rattle.cut_on_text.proofs.TextFeatures.{ObjectsMade, OthersMade, first_and_others, objects_made}
use Rattle.cut_on_text.proofs.TextMembers.{on_some_more}
use Rattle.cut_on_text.proofs.on_text.features.append_objects.Goals as goal

pub returns-clause-made : goal.returns-clause-made
returns-clause-made c = on_some_more c.append_others.result (λ others pairs are.
    let places = c.args.places.now in
    let left = take (length places - 1) (drop 1 places) in
    let (inside, bounded, one) = c.in_ok-append_named.ensures.made pairs are in
    subst (λ l. ObjectsMade (length c.args.copier.now.labels.table.items) c.args.copier.now.labels.table.items
    c.args.copier.now.labels.order.items c.args.copier.now.draft.line c.append_others.new.copier.labels.table.items
    c.append_others.new.copier.labels.order.items c.append_others.new.copier.draft.line (map (named_at pairs) l))
    (first_and_others places c.in-len1-up.len_at_least)
    (objects_made _ _ _ _ _ _ _ _ _ _ (named_at pairs (get_or places 0 0)) (map (named_at pairs) left) bounded one
    (subst (λ n. OthersMade n c.append_named.new.copier.labels.table.items c.append_named.new.copier.labels.order.items
    c.append_named.new.copier.draft.line c.append_others.new.copier.labels.table.items
    c.append_others.new.copier.labels.order.items c.append_others.new.copier.draft.line (map (named_at pairs) left))
    c.in_ok-append_named.ensures.long (others pairs are)))) c.append_others.ensures.made

use Rattle.std.proofs.Common.{◌∙◌, refl, subst}
use Rattle.city_json.proofs.PassedItems.{all_left}
use Rattle.city_json.specs.Compact.{compact_items, compact_more_items}
use Rattle.cut_on_text.proofs.TextCopies.{ItemsMade, NextMade, comma_on, end_on, item_on, items_begin}
use Rattle.cut_on_text.proofs.TextMembers.{on_some_more}
use Rattle.cut_on_text.proofs.on_text.items.append_items.Goals as goal

pub returns-then-is_over-clause-made : goal.returns-then-is_over-clause-made
returns-then-is_over-clause-made g c = on_some_more c.append_text-then-is_over.result (λ closed.
    let items = c.args.items.now in
    let begun = all_left (ItemsMade g.L.Labels.labelled compact_items c.args.holder (g.L.Labels.count c.args.copier.now.labels)
    c.args.copier.now.labels c.args.copier.now.draft.line c.args.copier.now.labels c.append_text.new.line) items items refl
    (items_begin c.args.holder _ _ _ _ c.in_ok-append_text.ensures) in
    end_on c.args.holder _ _ _ _ _ items items compact_items refl _ begun (c.is_over.ensures.yes c.if-is_over.true) closed)
    c.append_text-then-is_over.ensures

pub items-init : goal.items-init
items-init g c = record {
  count = refl;
  some = c.is_over.ensures.no c.if-is_over.false;
  goes_on = all_left (ItemsMade g.L.Labels.labelled compact_items c.args.holder (g.L.Labels.count c.args.copier.now.labels)
      c.args.copier.now.labels c.args.copier.now.draft.line c.args.copier.now.labels c.append_text.new.line) c.args.items.now c.args.items.now
      refl (items_begin c.args.holder _ _ _ _ c.in_ok-append_text.ensures);
}

pub returns-then-is_over-2-clause-made : goal.returns-then-is_over-2-clause-made
returns-then-is_over-2-clause-made g c = on_some_more c.append_text-then-is_over-2.result (λ closed.
    let next : NextMade g.L.Labels.labelled c.args.holder (g.L.Labels.count c.args.copier.now.labels) c.items.copier.labels
    c.items.copier.draft.line c.append_item.new.copier.labels c.append_item.new.copier.draft.line c.items.items c.append_item.new.items =
    subst (λ n. NextMade g.L.Labels.labelled c.args.holder n c.items.copier.labels c.items.copier.draft.line c.append_item.new.copier.labels
    c.append_item.new.copier.draft.line c.items.items c.append_item.new.items) c.items.invariant.count (λ all of.
    let (first, others, is, others_of, held, walks) = c.in_ok-append_item.ensures.made all of in
    (first, others, is, others_of, (held, walks))) in
    end_on c.args.holder _ _ _ _ _ c.args.items.now c.append_item.new.items compact_more_items refl _
    (item_on c.args.holder _ _ _ _ _ c.args.items.now c.items.items _ _ c.append_item.new.items c.items.invariant.goes_on
    next) (c.is_over-in-items.ensures.yes c.if-is_over-2.true) closed) c.append_text-then-is_over-2.ensures

pub items-preserved : goal.items-preserved
items-preserved g c =
    let next : NextMade g.L.Labels.labelled c.args.holder (g.L.Labels.count c.args.copier.now.labels) c.items.copier.labels
    c.items.copier.draft.line c.append_item.new.copier.labels c.append_item.new.copier.draft.line c.items.items c.append_item.new.items =
    subst (λ n. NextMade g.L.Labels.labelled c.args.holder n c.items.copier.labels c.items.copier.draft.line c.append_item.new.copier.labels
    c.append_item.new.copier.draft.line c.items.items c.append_item.new.items) c.items.invariant.count (λ all of.
    let (first, others, is, others_of, held, walks) = c.in_ok-append_item.ensures.made all of in
    (first, others, is, others_of, (held, walks))) in
    let some = c.is_over-in-items.ensures.no c.if-is_over-2.false in
    record {
      count = c.in_ok-append_item.ensures.count ∙ c.items.invariant.count;
      some = some;
      goes_on = comma_on c.args.holder _ _ _ _ _ c.args.items.now c.append_item.new.items _
          (item_on c.args.holder _ _ _ _ _ c.args.items.now c.items.items _ _ c.append_item.new.items
          c.items.invariant.goes_on next) some c.in_ok-append_text-2.ensures;
    }

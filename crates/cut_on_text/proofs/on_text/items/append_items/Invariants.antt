use Rattle.std.proofs.Common.{◌≡◌, length}
use Rattle.city_json.specs.Compact.{compact_items}
use Rattle.city_json.specs.CompactTexts.{IsCompactOf}
use Rattle.city_json.specs.Tree.{array, no_items}
use Rattle.cut_on_text.proofs.TextCopies.{GoesOnMade}
use Rattle.cut_on_text.proofs.on_text.items.append_items.Given as goal

abbrev pub invariant-items : goal.invariant-items
invariant-items g l = record {
  count : g.L.Labels.count l.copier.labels ≡ g.L.Labels.count l.fn.copier.labels;
  some : ¬ IsCompactOf l.items (array no_items);
  goes_on : GoesOnMade g.L.Labels.labelled compact_items l.holder (g.L.Labels.count l.fn.copier.labels) l.fn.copier.labels
      l.fn.copier.draft.line l.copier.labels l.copier.draft.line l.fn.items l.items;
}

abbrev pub decreases-items : goal.decreases-items
decreases-items g l = length l.items

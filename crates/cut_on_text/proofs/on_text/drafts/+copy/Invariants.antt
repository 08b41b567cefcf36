use Rattle.std.proofs.Common.{◌≡◌, ◌++◌, ◌∷◌, ◌≤◌, ◌-◌, ◌+◌, ◌*◌, ℕ, List, length, drop}
use Rattle.city_json.specs.Bytes.{close_bracket}
use Rattle.city_json.specs.Compact.{compact_items}
use Rattle.city_json.specs.Compacting.{shown}
use Rattle.city_json.specs.Tree.{ItemTrees}
use Rattle.city_json.specs.Writable.{AreWritableItems}
use Rattle.cut_on_text.proofs.CopiedArrays.{ItemsCopied}
use Rattle.cut_on_text.proofs.on_text.drafts.+copy.Given as goal

abbrev pub decreases-copy_part : goal.decreases-copy_part
decreases-copy_part g l = 2 * l.levels

abbrev pub decreases-copy_items : goal.decreases-copy_items
decreases-copy_items g l = 2 * l.levels + 1

abbrev pub invariant-copy_items-items : goal.invariant-copy_items-items
invariant-copy_items-items g l = record {
  onward : l.at ≤ l.i;
  within : l.i ≤ length l.text;
  copied : l.copier.draft.from ≤ l.i;
  count : g.L.Labels.count l.copier.labels ≡ g.L.Labels.count l.fn.copier.labels;
  goes_on : (items : ItemTrees) (rest : List ℕ) → AreWritableItems items
      → drop l.at l.text ≡ compact_items items ++ close_bracket ∷ rest
      → ItemsCopied g.L.Labels.labelled (g.L.Labels.count l.fn.copier.labels) items (drop l.i l.text) rest l.fn.copier.labels
      (shown l.fn.copier.draft.line l.text l.fn.copier.draft.from l.at) l.copier.labels (shown l.copier.draft.line l.text l.copier.draft.from l.i);
}

abbrev pub decreases-copy_items-items : goal.decreases-copy_items-items
decreases-copy_items-items g l = length l.text - l.i

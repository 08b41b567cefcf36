use Rattle.std.proofs.Common.{◌≡◌, map, take}
use Rattle.cut_on_text.specs.Made.{first_uses}
use Rattle.cut_on_text.proofs.on_text.made.note_leaves.Given as goal

-- the vertices of the leaves so far were noted
abbrev pub invariant-loop-leaf : goal.invariant-loop-leaf
invariant-loop-leaf l = l.order ≡ record {
  count = l.fn.order.count;
  order = first_uses l.fn.order.order (map (λ leaf. leaf.vertex) (take l.leaf-index l.leaves));
}

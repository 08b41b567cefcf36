use Rattle.std.proofs.Common.{◌≡◌, [], take, flat_map}
use Rattle.cut_on_text.specs.Made.{first_uses}
use Rattle.cut_on_text.specs.Skeletons.{uses_at}
use Rattle.cut_on_text.proofs.on_text.made.number_uses.Given as goal

-- the vertices of the objects so far were noted
abbrev pub invariant-loop-at : goal.invariant-loop-at
invariant-loop-at l = l.order ≡ record {
  count = l.fn.order.count;
  order = first_uses [] (flat_map (uses_at l.skeletons) (take l.at-index l.places));
}

use Rattle.std.proofs.Common.{◌+◌, ℕ, List, drop}
use Rattle.std.specs.Fmt.{decimal}
use Rattle.cut_on_text.specs.Made.{place_in}
use Rattle.cut_on_text.specs.Skeletons.{place_at, skeleton_text_at, woven}
use Rattle.cut_on_text.proofs.Writing.{WritesUpTo}
use Rattle.cut_on_text.proofs.on_text.made.write_object.Given as goal

-- the text up to the next leaf's part
abbrev pub invariant-loop-leaf : goal.invariant-loop-leaf
invariant-loop-leaf g l =
    let label : ℕ → List ℕ = λ vertex. decimal (place_in l.order.order vertex) in
    WritesUpTo g.W.Sink.taken g.W.Sink.failures l.fn.output l.fn.wrote l.output l.wrote (skeleton_text_at l.skeletons label l.at)
    (woven l.text l.from (place_at l.skeletons (l.at + 1)).text (drop l.leaf-index l.leaf-items) label)

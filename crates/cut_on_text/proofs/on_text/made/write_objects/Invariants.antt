use Rattle.std.proofs.Common.{ℕ, List, map}
use Rattle.std.specs.Fmt.{decimal}
use Rattle.cut_on_text.specs.Made.{listed, place_in}
use Rattle.cut_on_text.specs.Skeletons.{skeleton_text_at}
use Rattle.cut_on_text.proofs.Writing.{WritesUpTo, rest_listed}
use Rattle.cut_on_text.proofs.on_text.made.write_objects.Given as goal

-- the objects so far
abbrev pub invariant-loop-place : goal.invariant-loop-place
invariant-loop-place g l =
    let texts : List (List ℕ) = map (skeleton_text_at l.skeletons (λ vertex. decimal (place_in l.order.order vertex))) l.places in
    WritesUpTo g.W.Sink.taken g.W.Sink.failures l.fn.output l.fn.wrote l.output l.wrote (listed texts)
    (rest_listed l.place texts)

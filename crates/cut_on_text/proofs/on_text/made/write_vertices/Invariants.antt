use Rattle.std.proofs.Common.{ℕ, List, map}
use Rattle.cut_on_text.specs.Made.{listed, vertex_in}
use Rattle.cut_on_text.proofs.Writing.{WritesUpTo, rest_listed}
use Rattle.cut_on_text.proofs.on_text.made.write_vertices.Given as goal

-- the vertices so far
abbrev pub invariant-loop-place : goal.invariant-loop-place
invariant-loop-place g l =
    let texts : List (List ℕ) = map (vertex_in l.vertices.text l.vertices.starts.items) l.order in
    WritesUpTo g.W.Sink.taken g.W.Sink.failures l.fn.output l.fn.wrote l.output l.wrote (listed texts)
    (rest_listed l.place texts)

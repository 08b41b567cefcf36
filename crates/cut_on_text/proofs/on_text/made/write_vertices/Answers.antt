use Rattle.std.proofs.Common.{arith, map, subst}
use Rattle.cut_on_text.specs.Made.{listed, vertex_in}
use Rattle.cut_on_text.specs.Written.{Writes}
use Rattle.cut_on_text.proofs.Writing.{listed_all, listed_more, none_yet}
use Rattle.cut_on_text.proofs.on_text.made.write_vertices.Goals as goal

pub loop-place-init : goal.loop-place-init
loop-place-init g c = none_yet g.W.Sink.taken g.W.Sink.failures c.args.output.now c.args.wrote.now
    (listed (map (vertex_in c.args.vertices.now.text c.args.vertices.now.starts.items) c.args.order.now))

pub loop-place-preserved : goal.loop-place-preserved
loop-place-preserved g c = listed_more g.W.Sink.taken g.W.Sink.failures
    (vertex_in c.args.vertices.now.text c.args.vertices.now.starts.items) c.args.order.now c.loop-place.place
    c.args.output.now c.args.wrote.now c.loop-place.output c.loop-place.wrote c.loop-place.invariant
    c.loop-place-test.true c.write_comma.new.output c.write_comma.new.wrote c.write_piece.new.output
    c.write_piece.new.wrote c.write_comma.ensures (subst (Writes g.W.Sink.taken g.W.Sink.failures
    c.write_comma.new.output c.write_comma.new.wrote c.write_piece.new.output c.write_piece.new.wrote)
    c.vertex.ensures c.write_piece.ensures)

pub returns : goal.returns
returns g c = listed_all g.W.Sink.taken g.W.Sink.failures
    (vertex_in c.args.vertices.now.text c.args.vertices.now.starts.items) c.args.order.now c.loop-place.place
    c.args.output.now c.args.wrote.now c.loop-place.output c.loop-place.wrote c.loop-place.invariant
    (omega (arith, c.loop-place-test.false))

use Rattle.std.proofs.Common.{subst}
use Rattle.cut_on_text.specs.Written.{Writes}
use Rattle.cut_on_text.proofs.Writing.{comma_there, no_comma, writes_none}
use Rattle.cut_on_text.proofs.on_text.made.write_comma.Goals as goal

pub returns-then-place-gt0 : goal.returns-then-place-gt0
returns-then-place-gt0 g c = subst (Writes g.W.Sink.taken g.W.Sink.failures c.args.output.now c.args.wrote.now
    c.write_piece.new.output c.write_piece.new.wrote) (comma_there c.args.place c.if-place-gt0.true) c.write_piece.ensures

pub returns-else-place-gt0 : goal.returns-else-place-gt0
returns-else-place-gt0 g c = subst (Writes g.W.Sink.taken g.W.Sink.failures c.args.output.now c.args.wrote.now
    c.args.output.now c.args.wrote.now) (no_comma c.args.place c.if-place-gt0.false)
    (writes_none g.W.Sink.taken g.W.Sink.failures c.args.output.now c.args.wrote.now)

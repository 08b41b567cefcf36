use Rattle.std.proofs.Common.{◌∙◌, sym}
use Rattle.cut_on_text.proofs.Writing.{writes_no_more, writes_piece}
use Rattle.cut_on_text.proofs.on_text.made.write_piece.Goals as goal

pub returns-then-is_err : goal.returns-then-is_err
returns-then-is_err g c = writes_no_more g.W.Sink.taken g.W.Sink.failures c.args.output.now c.args.wrote.now c.args.text.now
    (sym c.is_err.ensures.value ∙ c.if-is_err.true)

pub returns : goal.returns
returns g c = writes_piece g.W.Sink.taken g.W.Sink.failures c.args.output.now c.args.wrote.now c.write_all.new.sink
    c.write_all.result c.args.text.now (sym c.is_err.ensures.value ∙ c.if-is_err.false) c.write_all.ensures.all
    c.write_all.ensures.some c.write_all.ensures.failures c.write_all.ensures.fault

use Rattle.std.proofs.Common.{◌-◌, ◌∙◌, ap, append-nil, arith, drop, length, subst, take_all}
use Rattle.std.proofs.lemmas.Fmt.{length-decimal-le}
use Rattle.std.specs.Fmt.{decimal}
use Rattle.cut_on_text.specs.Written.{Writes}
use Rattle.cut_on_text.proofs.on_text.made.write_number.Goals as goal

pub write_digits-start-requires : goal.write_digits-start-requires
write_digits-start-requires g c =
    let short = length-decimal-le 20 c.args.number (omega arith) (omega arith) (omega arith) in
    (omega (arith, short), omega arith)

pub returns : goal.returns
returns g c =
    let digits = c.write_digits-start.ensures.written ∙ append-nil (decimal c.args.number) in
    subst (Writes g.W.Sink.taken g.W.Sink.failures c.args.output.now c.args.wrote.now c.write_piece.new.output
    c.write_piece.new.wrote) (take_all (20 - c.write_digits-start.result) (drop c.write_digits-start.result
    c.write_digits-start.new.buf) (omega (arith, ap length digits, c.write_digits-start.ensures.start)) ∙ digits)
    c.write_piece.ensures

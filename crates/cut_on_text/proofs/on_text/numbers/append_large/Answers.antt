use Rattle.std.proofs.Common.{◌≡◌, ◌-◌, ◌∙◌, ◌++◌, ◌∷◌, ap, arith, take, length}
use Rattle.std.proofs.lemmas.Fmt.{length-decimal-le}
use Rattle.std.proofs.lemmas.List.{take_at}
use Rattle.std.specs.Fmt.{decimal}
use Rattle.cut_on_text.proofs.TextMembers.{on_some_more}
use Rattle.cut_on_text.proofs.on_text.numbers.append_large.Goals as goal

pub write_digits-digits-requires : goal.write_digits-digits-requires
write_digits-digits-requires c =
    let short = length-decimal-le 20 c.args.number (omega arith) (omega arith) (omega arith) in
    (omega (arith, short), omega arith)

pub returns : goal.returns
returns c = on_some_more c.append_few.result (λ appended.
    let start = c.put_byte-start.result in
    let put = c.put_byte-start.ensures.put ∙ ap (λ l. c.args.before ∷ l) c.write_digits-digits.ensures.written in
    let long : length (c.args.before ∷ decimal c.args.number) ≡ 24 - start =
    omega (arith, c.put_byte-start.ensures.place, c.write_digits-digits.ensures.start) in
    appended ∙ ap (λ l. c.args.to.now ++ l)
    (ap (take (24 - start)) put ∙ take_at (c.args.before ∷ decimal c.args.number) _ (24 - start) long))
    c.append_few.ensures

pub put_byte-start-requires-clause-some : goal.put_byte-start-requires-clause-some
put_byte-start-requires-clause-some c =
    let short = length-decimal-le 20 c.args.number (omega arith) (omega arith) (omega arith) in
    omega (arith, short, c.write_digits-digits.ensures.start)

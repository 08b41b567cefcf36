use Rattle.std.proofs.Common.{◌≡◌, ◌+◌, ◌/◌, ◌%◌, ◌∙◌, ◌++◌, ◌∷◌, [], ap, arith, sym}
use Rattle.std.proofs.lemmas.Fmt.{decimal_digit, decimal_step}
use Rattle.std.specs.Fmt.{decimal}
use Rattle.cut_on_text.proofs.TextMembers.{on_some_more}
use Rattle.cut_on_text.proofs.on_text.numbers.append_number.Goals as goal

pub returns-then-number-lt10 : goal.returns-then-number-lt10
returns-then-number-lt10 c = on_some_more c.append_text.result (λ appended.
    appended ∙ ap (λ l. c.args.to.now ++ c.args.before ∷ l)
    (sym (decimal_digit c.args.number c.if-number-lt10.true))) c.append_text.ensures

pub returns-then-number-lt100 : goal.returns-then-number-lt100
returns-then-number-lt100 c =
    let number = c.args.number in
    let two : decimal number ≡ (48 + number / 10) ∷ (48 + number % 10) ∷ [] =
    decimal_step number c.if-number-lt10.false (omega (arith, c.if-number-lt100.true))
    ∙ ap (λ l. l ++ (48 + number % 10) ∷ []) (decimal_digit (number / 10) (omega (arith, c.if-number-lt100.true))) in
    on_some_more c.append_text-then-number-lt100.result (λ appended.
    appended ∙ ap (λ l. c.args.to.now ++ c.args.before ∷ l) (sym two)) c.append_text-then-number-lt100.ensures

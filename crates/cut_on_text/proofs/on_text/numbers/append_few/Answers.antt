use Rattle.std.proofs.Common.{◌≡◌, ◌+◌, ◌-◌, ◌∙◌, ◌++◌, ap, arith, take, drop, length}
use Rattle.std.proofs.Math.Seq.{take-append-add}
use Rattle.std.proofs.lemmas.List.{take-take}
use Rattle.cut_on_text.proofs.on_text.numbers.append_few.Goals as goal

pub returns : goal.returns
returns c =
    let old = c.args.to.now in
    let rest = drop c.args.from c.args.text.now in
    let count = c.args.end - c.args.from in
    let most = c.args.from + 32 - c.args.from in
    let len_is : c.in-Some.after ≡ length old + count =
    omega (arith, c.in-Some.ensures, ap length c.items-before.ensures) in
    c.truncate.ensures ∙ ap (take c.in-Some.after) c.in-Ok.ensures.ok ∙ ap (λ n. take n (old ++ take most rest)) len_is
    ∙ take-append-add old (take most rest) count
    ∙ ap (λ l. old ++ l) (take-take count most rest (omega (arith, c.requires.few)))

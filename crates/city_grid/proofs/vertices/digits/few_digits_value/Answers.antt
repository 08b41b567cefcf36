use Rattle.city_grid.proofs.vertices.DigitWords.{few_digits_are}
use Rattle.city_grid.proofs.vertices.digits.few_digits_value.Goals as goal

pub returns : goal.returns
returns c digits =
    let within = c.requires in
    few_digits_are c.args.text.now c.args.at c.args.end c.word_at-values.result c.value_of_eight.result within.some within.few
    within.within (λ k. (c.type_inv.text k).fits) c.word_at-values.ensures digits c.value_of_eight.ensures

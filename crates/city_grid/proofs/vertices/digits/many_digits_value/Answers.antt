use Rattle.city_grid.proofs.vertices.DigitWords.{many_digits_are}
use Rattle.city_grid.proofs.vertices.digits.many_digits_value.Goals as goal

pub returns : goal.returns
returns c digits =
    let within = c.requires in
    many_digits_are c.args.text.now c.args.at c.args.end _ _ within.many within.few within.within digits
    c.few_digits_value.ensures c.few_digits_value-2.ensures

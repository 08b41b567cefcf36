use Rattle.std.proofs.Common.{◌<◌, arith}
use Rattle.city_grid.proofs.vertices.VertexTexts.{short_number, short_zero}
use Rattle.city_grid.proofs.vertices.texts.number_end.Goals as goal

pub returns-then-text-at-eq48-clause-is : goal.returns-then-text-at-eq48-clause-is
returns-then-text-at-eq48-clause-is c =
    let end = c.few_digits_end-end.result in
    let onward : c.args.at < end = omega (arith, c.if-end-at.false, c.few_digits_end-end.ensures.onward) in
    short_zero c.args.text.now c.args.at end onward (omega arith)
    (omega (arith, c.few_digits_end-end.ensures.few)) c.if-text-at-eq48.true

pub returns-clause-is : goal.returns-clause-is
returns-clause-is c =
    let end = c.few_digits_end-end.result in
    let onward : c.args.at < end = omega (arith, c.if-end-at.false, c.few_digits_end-end.ensures.onward) in
    short_number c.args.text.now c.args.at end onward
    (omega (arith, c.few_digits_end-end.ensures.few)) c.few_digits_end-end.ensures.few c.if-text-at-eq48.false
    c.few_digits_end-end.ensures.digits

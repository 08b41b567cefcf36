use Rattle.std.proofs.Common.{arith}
use Rattle.city_grid.proofs.vertices.VertexTexts.{zero_text, digits_text, few_digits}
use Rattle.city_grid.proofs.vertices.texts.number_at.Goals as goal

pub returns-then-text-at-eq48-clause-written : goal.returns-then-text-at-eq48-clause-written
returns-then-text-at-eq48-clause-written c =
    let digits = c.digits_at-digits.result in
    let is = c.digits_at-digits.ensures in
    zero_text c.args.text.now c.args.at digits.end digits.size (omega arith)
    (omega arith) is.within c.if-text-at-eq48.true is.value

pub returns-clause-small : goal.returns-clause-small
returns-clause-small c =
    let digits = c.digits_at-digits.result in
    let is = c.digits_at-digits.ensures in
    few_digits c.args.text.now c.args.at digits.end digits.size 16 is.within is.few is.digits is.value

pub returns-clause-written : goal.returns-clause-written
returns-clause-written c =
    let digits = c.digits_at-digits.result in
    let is = c.digits_at-digits.ensures in
    let small = few_digits c.args.text.now c.args.at digits.end digits.size 16 is.within is.few is.digits is.value in
    digits_text c.args.text.now c.args.at digits.end digits.size
    (omega arith) is.within c.if-text-at-eq48.false is.digits is.value small

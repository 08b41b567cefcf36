use Rattle.std.proofs.Common.{◌+◌, arith}
use Rattle.city_json.proofs.PassItems.{digits_clear, zero_clear}
use Rattle.city_json.proofs.PassScalars.{digits_are, plain_whole_is, zero_is}
use Rattle.city_json.proofs.compacting.scalars.integer_end.Goals as goal

pub returns-then-text-at-eq48-clause-whole : goal.returns-then-text-at-eq48-clause-whole
returns-then-text-at-eq48-clause-whole c = λ some. zero_is c.args.text.now c.args.at (omega arith) c.if-text-at-eq48.true

pub returns-clause-whole : goal.returns-clause-whole
returns-clause-whole c = digits_are c.args.text.now c.args.at c.digits_end.result
    (omega arith) c.if-text-at-eq48.false c.digits_end.ensures.onward c.digits_end.ensures.within
    c.digits_end.ensures.passed

pub returns-then-text-at-eq48-clause-clear : goal.returns-then-text-at-eq48-clause-clear
returns-then-text-at-eq48-clause-clear c =
    λ some. zero_clear c.args.text.now c.args.at (omega arith) c.if-text-at-eq48.true

pub returns-clause-clear : goal.returns-clause-clear
returns-clause-clear c = digits_clear c.args.text.now c.args.at c.digits_end.result
    (omega arith) c.digits_end.ensures.onward c.digits_end.ensures.within c.digits_end.ensures.passed

pub returns-then-text-at-eq48-clause-is : goal.returns-then-text-at-eq48-clause-is
returns-then-text-at-eq48-clause-is c = λ some. plain_whole_is c.args.text.now c.args.at (c.args.at + 1) (omega arith)
    (zero_is c.args.text.now c.args.at (omega arith) c.if-text-at-eq48.true)

pub returns-clause-is : goal.returns-clause-is
returns-clause-is c = λ some. plain_whole_is c.args.text.now c.args.at c.digits_end.result c.digits_end.ensures.onward
    (digits_are c.args.text.now c.args.at c.digits_end.result (omega arith) c.if-text-at-eq48.false
    c.digits_end.ensures.onward c.digits_end.ensures.within c.digits_end.ensures.passed some)

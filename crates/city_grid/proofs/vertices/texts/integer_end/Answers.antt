use Rattle.city_json.proofs.Options.{if_some_more}
use Rattle.city_grid.proofs.vertices.VertexTexts.{short_negative, short_positive}
use Rattle.city_grid.proofs.vertices.texts.integer_end.Goals as goal

pub returns-then-byte_is-clause-is : goal.returns-then-byte_is-clause-is
returns-then-byte_is-clause-is c =
    let marked = c.byte_is.ensures.0 c.if-byte_is.true in
    let found = c.in_ok-end.ensures in
    short_negative c.args.text.now c.args.at c.in_ok-end.end marked.0 marked.1 found.onward found.within
    c.if-text-at-eq48.false found.is

pub returns-clause-is : goal.returns-clause-is
returns-clause-is c =
    if_some_more c.number_end-2.result (λ end. short_positive c.args.text.now c.args.at end) c.number_end-2.ensures.is

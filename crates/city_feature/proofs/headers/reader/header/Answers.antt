use Rattle.city_feature.proofs.headers.Answered.{no_fault, same_value}
use Rattle.city_feature.proofs.headers.reader.header.Goals as goal

pub returns-in_err-transform-clause-only : goal.returns-in_err-transform-clause-only
returns-in_err-transform-clause-only c = λ grid is.
    absurd (no_fault c.header_transform.result c.in_err-transform.was (c.header_transform.ensures.only grid is))

pub returns-clause-only : goal.returns-clause-only
returns-clause-only c = λ grid is.
    same_value c.header_transform.result c.in_ok-transform.was (c.header_transform.ensures.only grid is)

use Rattle.city_feature.proofs.headers.reader.header_transform.Goals as goal

pub returns-clause-only : goal.returns-clause-only
returns-clause-only c = λ grid is. c.transform_of.ensures.only grid is.2

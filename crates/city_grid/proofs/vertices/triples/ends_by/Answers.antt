use Rattle.city_grid.proofs.vertices.NumberRuns.{near}
use Rattle.city_grid.proofs.vertices.triples.ends_by.Goals as goal

pub returns : goal.returns
returns c = λ count short within is.
    let found = near c.args.text.now c.args.at count c.args.stops _ _ _ _ _ _ short within is c.in_ok-x.ensures.is
    c.in_ok-y.ensures.is c.in_ok-z.ensures.is in
    (found.ends, found.few)

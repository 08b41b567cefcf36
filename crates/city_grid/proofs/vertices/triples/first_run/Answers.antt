use Rattle.city_grid.proofs.vertices.NumberRuns.{run_found}
use Rattle.city_grid.proofs.vertices.triples.first_run.Goals as goal

pub returns-clause-is : goal.returns-clause-is
returns-clause-is c = λ bytes short is. run_found c.args.stops bytes c.if-stops-eq0.false short is

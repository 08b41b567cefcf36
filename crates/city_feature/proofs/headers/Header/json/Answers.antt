use Rattle.city_feature.proofs.headers.Header.json.Goals as goal

pub returns-clause-header : goal.returns-clause-header
returns-clause-header c = rw (← c.self.view_is) c.self.invariant

use Rattle.city_json.proofs.object_text.ObjectText.text.Goals as goal

pub returns-clause-of : goal.returns-clause-of
returns-clause-of c = rw (← c.self.view_is) c.self.invariant.of

pub returns-clause-placed : goal.returns-clause-placed
returns-clause-placed c = rw (← c.self.view_is) c.self.invariant

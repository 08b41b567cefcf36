use Rattle.city_json.proofs.object_text.ObjectText.parts.Goals as goal

pub returns-clause-are : goal.returns-clause-are
returns-clause-are c = rw (← c.self.view_is) c.self.invariant.are

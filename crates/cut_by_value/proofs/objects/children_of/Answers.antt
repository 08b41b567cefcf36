use Rattle.cut_by_value.proofs.objects.children_of.Goals as goal

pub returns-clause-fault : goal.returns-clause-fault
returns-clause-fault c = rw (← c.items_named.ensures.list) c.places_of.ensures.fault

use Rattle.cut_by_value.proofs.relabelling.with_addresses.Goals as goal

pub returns-clause-ok : goal.returns-clause-ok
returns-clause-ok c = rw (c.in_boundaries.ensures.name, c.in_boundaries.ensures.table) at c.changed.ensures.ok

use Rattle.city_json.proofs.compacting.floor.told_object.Goals as goal

pub returns-then-spells_no_object-clause-other : goal.returns-then-spells_no_object-clause-other
returns-then-spells_no_object-clause-other c =
    let (value, spells, fits, shallow) = c.in_ok-check.ensures.taken in
    (value, spells, fits, shallow, c.spells_no_object.ensures c.if-spells_no_object.true)

use Rattle.city_json.specs.Tree.{object, tree}
use Rattle.city_json.proofs.Complete.{one_meaning}
use Rattle.city_json.proofs.compacting.floor.read_object.Goals as goal

pub returns-in_default-clause-other : goal.returns-in_default-clause-other
returns-in_default-clause-other c =
    let value = tree c.in_ok-value.value in
    let (spells, fits, shallow) = c.in_ok-value.ensures.value in (
      value,
      spells,
      fits,
      shallow,
      λ members other. c.in_default.ensures.none members
          (one_meaning c.args.text.now value (object members) spells.1 other.1),
    )

use Rattle.city_json.specs.Parts.{NotNamed}
use Rattle.city_json.proofs.compacting.places.part_named.Given as goal

abbrev pub invariant-loop-part : goal.invariant-loop-part
invariant-loop-part l = NotNamed l.text l.parts l.name l.part-index

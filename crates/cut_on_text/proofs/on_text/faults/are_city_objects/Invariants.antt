use Rattle.cut_on_text.proofs.CityShapes.{AreChecked}
use Rattle.cut_on_text.proofs.on_text.faults.are_city_objects.Given as goal

abbrev pub invariant-loop-part : goal.invariant-loop-part
invariant-loop-part l = AreChecked l.text l.part-items l.part-index

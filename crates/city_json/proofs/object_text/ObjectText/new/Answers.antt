use Rattle.city_json.proofs.ObjectTexts.{placed}
use Rattle.city_json.proofs.object_text.ObjectText.new.Goals as goal

pub invariant_of-result : goal.invariant_of-result
invariant_of-result c = placed c.args.text.now c.args.parts.now c.requires.0 c.requires.1 c.requires.2

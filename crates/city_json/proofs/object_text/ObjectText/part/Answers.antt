use Rattle.std.proofs.Common.{IfNone, IfSome, subst}
use Rattle.city_json.specs.ObjectTexts.{HasNone, PlacedObject}
use Rattle.city_json.specs.Parts.{IsPartNamed}
use Rattle.city_json.proofs.ObjectTexts.{has_none, none_more}
use Rattle.city_json.proofs.object_text.ObjectText.part.Goals as goal

pub returns-clause-some : goal.returns-clause-some
returns-clause-some c =
    subst (λ (there : PlacedObject). IfSome c.part_named.result (IsPartNamed there.text there.parts c.args.name.now))
    c.self.view_is c.part_named.ensures.some

pub returns-clause-none : goal.returns-clause-none
returns-clause-none c =
    subst (λ (there : PlacedObject). IfNone c.part_named.result (HasNone c.args.name.now there)) c.self.view_is
    (none_more c.part_named.result (has_none _ c.self.invariant c.args.name.now) c.part_named.ensures.none)

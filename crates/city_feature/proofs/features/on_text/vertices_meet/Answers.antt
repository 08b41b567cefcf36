use Rattle.std.proofs.Common.{◌∙◌, ◌↔◌, IfSome, IsTrue, subst}
use Rattle.city_feature.specs.Area.{Meets}
use Rattle.city_feature.specs.LineVertices.{AreKnown}
use Rattle.city_feature.proofs.features.on_text.vertices_meet.Goals as goal

pub returns-in-Move : goal.returns-in-Move
returns-in-Move c = λ ps known.
    let area = c.args.area.now in
    subst (λ vs. IsTrue c.meets_given_area.result ↔ IfSome area (λ one. Meets one vs))
    (c.deref.ensures.value ∙ subst (AreKnown area ps) c.in-Move.is known) c.meets_given_area.ensures

use Rattle.std.proofs.Common.{◌∙◌, ◌↔◌, IfSome, IsTrue, arith, slice_range, subst, sym}
use Rattle.city_feature.specs.Area.{Meets}
use Rattle.city_feature.proofs.NamedTexts.{if_some_more}
use Rattle.city_feature.proofs.features.on_text.unread.unread_vertices_meet.Goals as goal

pub returns : goal.returns
returns c =
    let line = c.args.line.now in
    let (some, from, end) = c.is_value_of.ensures.0 c.if-not-is_value_of.false in
    if_some_more c.triples_meet.result (λ meets (ps, written, range, met). (
      omega (arith, some, from, end),
      ps,
      sym (λ i. slice_range line (from i) (end i)) ∙ written,
      range,
      subst (λ a. IsTrue meets ↔ IfSome a (λ one. Meets one ps)) (sym c.in-Some.is) met,
    )) c.triples_meet.ensures
